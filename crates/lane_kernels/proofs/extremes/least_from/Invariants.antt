use Rattle.std.proofs.Common.{◌≡◌, take}
use Rattle.std.specs.Prelude.{fold}
use Rattle.std.specs.Int.{int_min}
use Rattle.lane_kernels.proofs.extremes.least_from.Given as goal

abbrev pub invariant-loop-value : goal.invariant-loop-value
invariant-loop-value l = l.least ≡ fold int_min l.first (take l.value-index l.values)
