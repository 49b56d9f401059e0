use Rattle.std.proofs.Common.{◌≡◌, ◌≤◌, ◌+◌, ◌-◌, ◌*◌, ◌++◌, length, take}
use Rattle.raster_values.specs.Flat.{value_in}
use Rattle.delta_mode.specs.Deltas.{is_valid}
use Rattle.delta_mode.specs.EncodeStates.{deltas_before}
use Rattle.delta_mode.specs.inside.Pieces.{IsAt}
use Rattle.delta_mode.proofs.marked_piece.write_pieces.Given as goal

abbrev pub invariant-loop-at : goal.invariant-loop-at
invariant-loop-at g l = record {
  within : l.at ≤ (g.V.View.pixels l.plane.raster.now).rows * (g.V.View.pixels l.plane.raster.now).cols;
  kept : IsAt (is_valid (g.V.View.pixels l.plane.raster.now)) (value_in (g.V.View.pixels l.plane.raster.now) l.plane.d) l.at l.behind.left l.behind.last l.behind.count;
  counted : l.behind.count ≡ l.walk.count + l.filled;
  few : l.place + l.filled ≤ l.at;
  fits : l.filled ≤ length l.out;
  room : length l.out ≡ length l.fn.out;
  distances : length l.distances ≡ 33;
  symbols : deltas_before (g.V.View.pixels l.plane.raster.now) l.plane.d l.at ≡ deltas_before (g.V.View.pixels l.plane.raster.now) l.plane.d l.place ++ take l.filled l.out;
}

abbrev pub decreases-loop-at : goal.decreases-loop-at
decreases-loop-at g l = (g.V.View.pixels l.plane.raster.now).rows * (g.V.View.pixels l.plane.raster.now).cols - l.at
