use Rattle.std.proofs.Common.{◌≡◌, ◌<◌, ◌+◌, ℕ, get_or}
use Rattle.std.specs.Prelude.{pos}
use Rattle.raster_values.specs.inside.Planes.{plane_value}
use Rattle.raster_values.proofs.blocks.numbered.get_mixed.Given as goal

abbrev pub invariant-loop-i : goal.invariant-loop-i
invariant-loop-i l = (k : ℕ) → k < l.i → get_or l.out k (pos 0) ≡ plane_value l.plane (l.place + k)
