use Rattle.std.proofs.Common.{◌-◌, ◌*◌, ◌/◌, ◌%◌, length, take, drop, refl, ap, ◌∙◌, subst, arith}
use Rattle.std.proofs.lemmas.List.{take_rest}
use Rattle.byteorder.specs.Endian.{little_number}
use Rattle.huff_codes.specs.inside.Stored.{IsAhead}
use Rattle.huff_codes.proofs.Windows.{window_two, window_one, window_none, words_from}
use Rattle.huff_codes.proofs.words.reading.ahead.Goals as goal

pub returns-then-rest-ge8 : goal.returns-then-rest-ge8
returns-then-rest-ge8 c =
    let bytes = c.args.bytes.now in
    let rest = take (length bytes - c.args.bit / 32 * 4) (drop (c.args.bit / 32 * 4) bytes) in
    subst (IsAhead (record { word = c.bits_across.result; count = 32 })) (words_from bytes rest c.args.bit c.requires refl)
    (window_two rest (c.args.bit % 32) c.read_u32-first.result c.read_u32-second.result c.bits_across.result (omega arith) (omega arith) c.read_u32-first.ensures (c.read_u32-second.ensures ∙ ap (little_number 4) (take_rest rest 4)) (omega arith) c.bits_across.ensures)

pub returns-then-rest-ge4 : goal.returns-then-rest-ge4
returns-then-rest-ge4 c =
    let bytes = c.args.bytes.now in
    let rest = take (length bytes - c.args.bit / 32 * 4) (drop (c.args.bit / 32 * 4) bytes) in
    subst (IsAhead (record { word = c.bits_across-then-rest-ge4.result; count = 32 - c.args.bit % 32 })) (words_from bytes rest c.args.bit c.requires refl)
    (window_one rest (c.args.bit % 32) c.read_u32.result c.bits_across-then-rest-ge4.result (omega arith) (omega arith) (omega arith) c.read_u32.ensures c.bits_across-then-rest-ge4.ensures)

pub returns-else-rest-ge4 : goal.returns-else-rest-ge4
returns-else-rest-ge4 c =
    let bytes = c.args.bytes.now in
    let rest = take (length bytes - c.args.bit / 32 * 4) (drop (c.args.bit / 32 * 4) bytes) in
    subst (IsAhead (record { word = 0; count = 0 })) (words_from bytes rest c.args.bit c.requires refl)
    (window_none rest (c.args.bit % 32) 0 (omega arith))
