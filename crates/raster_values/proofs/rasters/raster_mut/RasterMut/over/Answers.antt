use Rattle.std.proofs.Common.{◌≤◌, ◌*◌, ◌∙◌, ap, sym, subst, refl, length}
use Rattle.raster_cells.specs.PixelType.{bytes_of}
use Rattle.raster_values.proofs.FlatViews.{marks_of-pixels_of}
use Rattle.raster_cells.proofs.MaskBits.{length-marks_in}
use Rattle.raster_values.proofs.RasterMutArrays.{made, left_there, zeros_there}
use Rattle.raster_values.proofs.rasters.raster_mut.RasterMut.over.Goals as goal

pub clear_masked-requires-clause-few : goal.clear_masked-requires-clause-few
clear_masked-requires-clause-few c =
    let places = ap length c.over-marks.ensures ∙ length-marks_in (c.args.rows * c.args.cols) c.args.mask.now in
    subst (λ n. n * c.args.depth ≤ 16777216) (sym places) c.requires.shape.size

pub clear_masked-requires-clause-size : goal.clear_masked-requires-clause-size
clear_masked-requires-clause-size c =
    let places = ap length c.over-marks.ensures ∙ length-marks_in (c.args.rows * c.args.cols) c.args.mask.now in
    c.requires.size ∙ ap (λ n. n * c.args.depth * bytes_of c.args.kind) (sym places)

pub invariant_of-result : goal.invariant_of-result
invariant_of-result c =
    let are = made c.args.kind c.args.rows c.args.cols c.args.depth (c.args.rows * c.args.cols * c.args.depth) c.valid_count-valid.result c.args.mask.now c.clear_masked.new.values c.over-marks.result c.requires.shape c.requires.mask c.valid_count-valid.ensures
    c.over-marks.ensures refl c.clear_masked.ensures.cells c.clear_masked.ensures.zeros in
    record { inside = are.inside; bits = are.bits; cells = are.cells }

pub returns-clause-marks : goal.returns-clause-marks
returns-clause-marks c = marks_of-pixels_of c.args.depth _ _

pub returns-clause-values : goal.returns-clause-values
returns-clause-values c k d all below less =
    let are = made c.args.kind c.args.rows c.args.cols c.args.depth (c.args.rows * c.args.cols * c.args.depth) c.valid_count-valid.result c.args.mask.now c.clear_masked.new.values c.over-marks.result c.requires.shape c.requires.mask c.valid_count-valid.ensures
    c.over-marks.ensures refl c.clear_masked.ensures.cells c.clear_masked.ensures.zeros in
    left_there c.args.kind c.args.rows c.args.cols c.args.depth (c.args.rows * c.args.cols * c.args.depth) c.args.mask.now c.clear_masked.new.values c.over-marks.result c.args.values.now are.inside c.over-marks.ensures c.clear_masked.ensures.whole all k d below less

pub returns-clause-zeros : goal.returns-clause-zeros
returns-clause-zeros c k d some below less =
    let are = made c.args.kind c.args.rows c.args.cols c.args.depth (c.args.rows * c.args.cols * c.args.depth) c.valid_count-valid.result c.args.mask.now c.clear_masked.new.values c.over-marks.result c.requires.shape c.requires.mask c.valid_count-valid.ensures
    c.over-marks.ensures refl c.clear_masked.ensures.cells c.clear_masked.ensures.zeros in
    zeros_there c.args.kind c.args.rows c.args.cols c.args.depth (c.args.rows * c.args.cols * c.args.depth) c.args.mask.now c.clear_masked.new.values c.over-marks.result are.inside c.over-marks.ensures refl c.clear_masked.ensures.zeros some k d below less
