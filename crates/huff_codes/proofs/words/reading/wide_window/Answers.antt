use Rattle.std.proofs.Common.{◌+◌, ◌-◌, ◌*◌, ◌/◌, ◌%◌, ◌^◌, ◌<◌, length, take, drop, refl, ap, ◌∙◌, arith}
use Rattle.std.proofs.lemmas.List.{take_rest}
use Rattle.byteorder.specs.Endian.{little_number}
use Rattle.huff_codes.proofs.Lookups.{wide_fits, wide_seen}
use Rattle.huff_codes.proofs.words.reading.wide_window.Goals as goal

pub overflow_add-result : goal.overflow_add-result
overflow_add-result c =
    let third : c.from-third.result < 2 ^ 32 = omega (arith, c.from-third.ensures) in
    omega (arith, wide_fits (c.from-first.result * 2 ^ 32 + c.from-second.result) (c.args.bit % 32) c.from-third.result (omega arith) third)

pub returns : goal.returns
returns c =
    let bytes = c.args.bytes.now in
    let bit = c.args.bit in
    let rest = take (length bytes - bit / 32 * 4) (drop (bit / 32 * 4) bytes) in
    wide_seen bytes rest bit c.from-first.result c.from-second.result c.from-third.result c.requires refl (c.from-first.ensures ∙ c.read_u32.ensures)
    (c.from-second.ensures ∙ c.read_u32-2.ensures ∙ ap (little_number 4) (take_rest rest 4))
    (c.from-third.ensures ∙ c.read_u32-3.ensures ∙ ap (little_number 4) (take_rest rest 8))
    (omega (arith, c.from-second.ensures)) (omega (arith, c.from-third.ensures))
