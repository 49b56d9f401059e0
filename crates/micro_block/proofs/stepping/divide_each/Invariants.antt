use Rattle.std.proofs.Common.{◌≡◌, map, take}
use Rattle.micro_block.specs.inside.Stepping.{steps_above}
use Rattle.micro_block.proofs.stepping.divide_each.Given as goal

abbrev pub invariant-loop-i : goal.invariant-loop-i
invariant-loop-i l = take l.i l.out ≡ map (steps_above l.step l.least) (take l.i l.distances)
