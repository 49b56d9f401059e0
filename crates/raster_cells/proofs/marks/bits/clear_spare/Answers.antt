use Rattle.std.proofs.Common.{◌≡◌, ◌∙◌, ◌&&◌, nat_lt, ap, false, arith}
use Rattle.std.proofs.lemmas.Bool.Decides.{nat_tests}
use Rattle.raster_cells.specs.Masks.{marks_in, mask_bit}
use Rattle.raster_cells.proofs.MaskBits.{bits_before, length-marks_in, marks_are}
use Rattle.raster_cells.proofs.marks.bits.clear_spare.Goals as goal

pub returns-clause-marks : goal.returns-clause-marks
returns-clause-marks c =
    let n = c.args.count in
    let old = c.args.bytes.now in
    marks_are n c.keep_front.new.bytes (marks_in n old) (length-marks_in n old) (λ k _. c.keep_front.ensures.bits k ∙ bits_before n old k)

pub returns-clause-spare : goal.returns-clause-spare
returns-clause-spare c = λ k ge.
    let t : nat_lt k c.args.count ≡ false = grind (arith, nat_tests) in
    c.keep_front.ensures.bits k ∙ ap (λ u. u && mask_bit c.args.bytes.now k) t
