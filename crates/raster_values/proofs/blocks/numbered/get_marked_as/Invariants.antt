use Rattle.std.proofs.Common.{◌≡◌, ◌<◌, ◌≤◌, ◌+◌, ◌-◌, ℕ, get_or, length}
use Rattle.std.specs.Prelude.{pos}
use Rattle.raster_values.specs.inside.Planes.{plane_value}
use Rattle.raster_values.proofs.blocks.numbered.get_marked_as.Given as goal

abbrev pub invariant-loop-k : goal.invariant-loop-k
invariant-loop-k l = record {
  within : l.k ≤ length l.initial.out;
  read : (i : ℕ) → i < l.k → get_or l.out i (pos 0) ≡ plane_value l.plane (l.place + i);
}

abbrev pub decreases-loop-k : goal.decreases-loop-k
decreases-loop-k l = length l.initial.out - l.k
