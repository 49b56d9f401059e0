use Rattle.std.proofs.Common.{◌-◌, ◌*◌, ◌+◌, ◌/◌, ◌≤◌, take, drop, length, refl, arith}
use Rattle.std.proofs.lemmas.List.{length-take}
use Rattle.raster_cells.specs.Masks.{mask_bit}
use Rattle.raster_cells.proofs.MarkWords.{bits_count}
use Rattle.raster_cells.proofs.MaskCounts.{count_most}
use Rattle.raster_cells.proofs.MaskBytes.{count_three}
use Rattle.raster_cells.proofs.marks.counting.count_bits.Goals as goal

pub overflow_add-result : goal.overflow_add-result
overflow_add-result c =
    let from = c.args.from in
    let first = c.div_ceil-first.result in
    let last = (from + c.args.count) / 8 in
    let piece = take (last - first) (drop first c.args.bytes.now) in
    omega (
      arith,
      c.requires.few,
      c.div_ceil-first.ensures,
      c.count_part-2.ensures,
      count_most (mask_bit c.args.bytes.now) from (first * 8 - from),
      c.count_bytes.ensures,
      count_most (mask_bit piece) 0 (8 * length piece),
      length-take (last - first) (drop first c.args.bytes.now),
    )

pub overflow_add-result-2 : goal.overflow_add-result-2
overflow_add-result-2 c =
    let from = c.args.from in
    let first = c.div_ceil-first.result in
    let last = (from + c.args.count) / 8 in
    let piece = take (last - first) (drop first c.args.bytes.now) in
    omega (
      arith,
      c.requires.few,
      c.div_ceil-first.ensures,
      c.count_part-2.ensures,
      count_most (mask_bit c.args.bytes.now) from (first * 8 - from),
      c.count_bytes.ensures,
      count_most (mask_bit piece) 0 (8 * length piece),
      length-take (last - first) (drop first c.args.bytes.now),
      c.count_part-3.ensures,
      count_most (mask_bit c.args.bytes.now) (last * 8) (from + c.args.count - last * 8),
    )

pub returns : goal.returns
returns c =
    let bytes = c.args.bytes.now in
    let from = c.args.from in
    let count = c.args.count in
    let first = c.div_ceil-first.result in
    let last = (from + count) / 8 in
    let low : from ≤ first * 8 = omega (arith, c.div_ceil-first.ensures) in
    let order : first ≤ last = omega (arith, c.if-last-first.false) in
    count_three bytes (take (last - first) (drop first bytes)) from count first last c.count_part-2.result c.count_bytes.result c.count_part-3.result low order (omega arith) (omega (arith, c.requires.within)) refl
    c.count_part-2.ensures c.count_bytes.ensures c.count_part-3.ensures

pub returns-then-count-le32 : goal.returns-then-count-le32
returns-then-count-le32 c = bits_count c.args.bytes.now c.args.from c.args.count c.word_from.result c.word_from.ensures.below c.word_from.ensures.bits
