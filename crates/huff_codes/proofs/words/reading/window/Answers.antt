use Rattle.std.proofs.Common.{◌-◌, ◌*◌, ◌/◌, length, take, drop, refl, ap, ◌∙◌, arith}
use Rattle.std.proofs.lemmas.List.{take_rest}
use Rattle.byteorder.specs.Endian.{little_number}
use Rattle.huff_codes.proofs.Lookups.{window_seen}
use Rattle.huff_codes.proofs.words.reading.window.Goals as goal

pub returns : goal.returns
returns c =
    let bytes = c.args.bytes.now in
    let bit = c.args.bit in
    let rest = take (length bytes - bit / 32 * 4) (drop (bit / 32 * 4) bytes) in
    window_seen bytes rest bit c.from-first.result c.from-second.result c.requires refl (c.from-first.ensures ∙ c.read_u32.ensures)
    (c.from-second.ensures ∙ c.read_u32-2.ensures ∙ ap (little_number 4) (take_rest rest 4)) (omega (arith, c.from-second.ensures))
