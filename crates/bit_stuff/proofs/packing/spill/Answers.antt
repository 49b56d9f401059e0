use Rattle.std.proofs.Common.{◌≡◌, ◌<◌, ◌+◌, ◌-◌, ◌^◌, arith}
use Rattle.std.proofs.lemmas.Nat.{shr_below}
use Rattle.bit_stuff.proofs.Buffers.{word_moved}
use Rattle.bit_stuff.proofs.packing.spill.Goals as goal

pub returns-clause-buffer : goal.returns-clause-buffer
returns-clause-buffer c =
    let b = c.args.buffer in
    let parts : b.used ≡ b.used - 32 + 32 = omega arith in
    let below : b.held < 2 ^ (b.used - 32 + 32) = rw (← parts) c.requires.buffer.0 in
    (shr_below b.held (b.used - 32) 32 below, omega arith)

pub returns-clause-number : goal.returns-clause-number
returns-clause-number c =
    word_moved c.args.out.now c.args.buffer.at c.args.buffer.held c.write_u32.new.buf _ (omega arith) c.write_u32.ensures
