use Rattle.std.proofs.Common.{◌∙◌, ap, length, replicate, false}
use Rattle.std.proofs.lemmas.List.{length-replicate}
use Rattle.raster_cells.specs.Masks.{mask_bit}
use Rattle.raster_cells.proofs.MaskBits.{bits_none, marks_are}
use Rattle.raster_cells.proofs.marks.mask_bits.clear_bits.Goals as goal

pub returns-clause-marks : goal.returns-clause-marks
returns-clause-marks c =
    let n = c.args.pixels in
    marks_are n c.fill_bytes.new.bytes (replicate n false) (length-replicate n false)
    (λ k _. ap (λ xs. mask_bit xs k) c.fill_bytes.ensures ∙ bits_none n (length c.args.bits.now) k)

pub returns-clause-spare : goal.returns-clause-spare
returns-clause-spare c = λ k. ap (λ xs. mask_bit xs k) c.fill_bytes.ensures ∙ bits_none 0 (length c.args.bits.now) k
