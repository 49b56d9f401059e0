use Rattle.std.proofs.Common.{◌*◌, ◌∙◌, Bool, List, ap, false, get_or, length, arith}
use Rattle.raster_values.specs.declared.rasters.raster_ref.RasterRef.TheInside.{Inside as Arrays}
use Rattle.raster_values.specs.inside.RasterRefView.{AreSeen}
use Rattle.raster_values.proofs.FlatViews.{marks_of-pixels_of}
use Rattle.raster_cells.proofs.MaskBits.{get_or-marks_in, length-marks_in}
use Rattle.raster_values.proofs.RasterRefArrays.{are_seen, seen_raster, seen_value}
use Rattle.raster_cells.proofs.Spelled.{AreBytes}
use Rattle.raster_values.proofs.rasters.raster_ref.RasterRef.over.Goals as goal

abbrev arrays : goal.After-over-2 → Arrays
arrays c = record { rows = c.args.rows; cols = c.args.cols; depth = c.args.depth; marks = c.over.result; values = c.over-2.result }

are : (c : goal.After-over-2) → AreSeen (arrays c)
are c =
    let bytes : AreBytes c.args.values.now = λ i. omega (arith, c.type_inv.values i) in
    are_seen (arrays c) c.args.kind c.args.values.now c.requires.shape (ap length c.over.ensures ∙ length-marks_in (c.args.rows * c.args.cols) c.args.mask.now) bytes c.over-2.ensures

pub invariant_of-result : goal.invariant_of-result
invariant_of-result c = are c

pub returns-clause-sound : goal.returns-clause-sound
returns-clause-sound c = seen_raster (arrays c) (are c)

pub returns-clause-marks : goal.returns-clause-marks
returns-clause-marks c = marks_of-pixels_of c.args.depth c.over.result c.over-2.result.values ∙ c.over.ensures

pub returns-clause-values : goal.returns-clause-values
returns-clause-values c k d below less on =
    seen_value (arrays c) c.args.kind c.args.values.now k d c.over-2.ensures below less
    (ap (λ (ms : List Bool). get_or ms k false) c.over.ensures ∙ get_or-marks_in (c.args.rows * c.args.cols) c.args.mask.now k below ∙ on)
