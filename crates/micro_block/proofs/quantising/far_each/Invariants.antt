use Rattle.std.proofs.Common.{◌≡◌, pos, map, take, drop}
use Rattle.std.specs.Prelude.{unsigned_abs}
use Rattle.micro_block.specs.inside.Products.{rounded_steps}
use Rattle.micro_block.proofs.quantising.far_each.Given as goal

abbrev pub invariant-loop-i : goal.invariant-loop-i
invariant-loop-i l =
    (take l.i l.distances ≡ map (λ d. pos (rounded_steps l.step (unsigned_abs d))) (take l.i l.initial.distances))
    × (drop l.i l.distances ≡ drop l.i l.initial.distances)
