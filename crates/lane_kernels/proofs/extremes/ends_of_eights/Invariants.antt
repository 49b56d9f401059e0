use Rattle.std.proofs.Common.{◌≡◌, ◌≤◌, ◌-◌, ◌%◌, length, map, take, to_z}
use Rattle.std.specs.Prelude.{fold}
use Rattle.std.specs.Int.{int_min, int_max, w64}
use Rattle.lane_kernels.specs.inside.Lanes.{AreLanes}
use Rattle.lane_kernels.proofs.extremes.ends_of_eights.Given as goal

abbrev pub invariant-loop-at : goal.invariant-loop-at
invariant-loop-at l =
    (l.at ≤ length l.values)
    × ((l.at % 8 ≡ 0)
    × ((AreLanes (map (to_z w64) l.low) × (fold int_min l.first (map (to_z w64) l.low) ≡ fold int_min l.first (take l.at l.values)))
    × (AreLanes (map (to_z w64) l.high) × (fold int_max l.first (map (to_z w64) l.high) ≡ fold int_max l.first (take l.at l.values)))))

abbrev pub decreases-loop-at : goal.decreases-loop-at
decreases-loop-at l = length l.values - l.at
