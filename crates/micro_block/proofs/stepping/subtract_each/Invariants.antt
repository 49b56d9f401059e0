use Rattle.std.proofs.Common.{◌≡◌, ◌-◌, map, take}
use Rattle.micro_block.proofs.stepping.subtract_each.Given as goal

abbrev pub invariant-loop-i : goal.invariant-loop-i
invariant-loop-i l = take l.i l.out ≡ map (λ d. d - l.least) (take l.i l.distances)
