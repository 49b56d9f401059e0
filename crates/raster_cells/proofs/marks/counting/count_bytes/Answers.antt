use Rattle.std.proofs.Common.{◌*◌, ◌+◌, get_or, arith, refl}
use Rattle.std.specs.Int.RustNames.{count_ones}
use Rattle.raster_cells.specs.Masks.{mask_bit}
use Rattle.raster_cells.proofs.MaskCounts.{count_most}
use Rattle.raster_cells.proofs.MaskBytes.{count_more_bytes}
use Rattle.raster_cells.proofs.marks.counting.count_bytes.Goals as goal

pub overflow_add-n : goal.overflow_add-n
overflow_add-n c =
    let bytes = c.args.bytes.now in
    let i = c.loop-byte.byte-index in
    omega (
      arith,
      count_more_bytes bytes i c.loop-byte.n (count_ones (get_or bytes i 0)) (omega (arith, c.type_inv.bytes i)) c.loop-byte.invariant refl,
      count_most (mask_bit bytes) 0 (8 * (i + 1)),
      c.loop-byte-test.true,
      c.requires,
    )

pub loop-byte-preserved : goal.loop-byte-preserved
loop-byte-preserved c =
    let bytes = c.args.bytes.now in
    let i = c.loop-byte.byte-index in
    count_more_bytes bytes i c.loop-byte.n (count_ones (get_or bytes i 0)) (omega (arith, c.type_inv.bytes i)) c.loop-byte.invariant refl
