use Rattle.std.proofs.Common.{◌*◌, ◌%◌, ◌^◌, ℕ, ap, arith}
use Rattle.bit_stuff.proofs.Buffers.{shifted, held_more-lt}
use Rattle.bit_stuff.proofs.packing.take_in.Goals as goal

pub returns-clause-held : goal.returns-clause-held
returns-clause-held c = omega (arith, c.from.ensures, shifted c.args.value c.args.buffer.used c.args.width c.requires.value (omega arith), ap (λ (v : ℕ). v * 2 ^ c.args.buffer.used % 2 ^ 64) c.from.ensures)

pub returns-clause-buffer : goal.returns-clause-buffer
returns-clause-buffer c = (
  omega (arith, shifted c.args.value c.args.buffer.used c.args.width c.requires.value (omega arith), ap (λ (v : ℕ). v * 2 ^ c.args.buffer.used % 2 ^ 64) c.from.ensures, held_more-lt c.args.buffer.held c.args.buffer.used c.args.value c.args.width c.requires.buffer.0 c.requires.value),
  omega arith,
)
