use Rattle.std.proofs.Common.{◌*◌, ◌∙◌, Bool, List, ap, false, true, get_or, length, arith}
use Rattle.std.proofs.lemmas.List.{get_or-replicate, length-replicate}
use Rattle.raster_values.specs.declared.rasters.raster_ref.RasterRef.TheInside.{Inside as Arrays}
use Rattle.raster_values.specs.inside.RasterRefView.{AreSeen}
use Rattle.raster_values.proofs.FlatViews.{marks_of-pixels_of}
use Rattle.raster_values.proofs.RasterRefArrays.{are_seen, seen_raster, seen_value}
use Rattle.raster_cells.proofs.Spelled.{AreBytes}
use Rattle.raster_values.proofs.rasters.raster_ref.RasterRef.whole.Goals as goal

abbrev arrays : goal.After-over → Arrays
arrays c = record { rows = c.args.rows; cols = c.args.cols; depth = c.args.depth; marks = c.whole.result; values = c.over.result }

are : (c : goal.After-over) → AreSeen (arrays c)
are c =
    let bytes : AreBytes c.args.values.now = λ i. omega (arith, c.type_inv.values i) in
    are_seen (arrays c) c.args.kind c.args.values.now c.requires.shape (ap length c.whole.ensures ∙ length-replicate (c.args.rows * c.args.cols) true) bytes c.over.ensures

pub invariant_of-result : goal.invariant_of-result
invariant_of-result c = are c

pub returns-clause-sound : goal.returns-clause-sound
returns-clause-sound c = seen_raster (arrays c) (are c)

pub returns-clause-marks : goal.returns-clause-marks
returns-clause-marks c = marks_of-pixels_of c.args.depth c.whole.result c.over.result.values ∙ c.whole.ensures

pub returns-clause-values : goal.returns-clause-values
returns-clause-values c k d below less =
    seen_value (arrays c) c.args.kind c.args.values.now k d c.over.ensures below less
    (ap (λ (ms : List Bool). get_or ms k false) c.whole.ensures ∙ get_or-replicate (c.args.rows * c.args.cols) k true false below)
