use Rattle.std.proofs.Common.{◌≡◌, ℕ, ◌<◌, get_or}
use Rattle.mask_runs.specs.Ending.{ending_with}
use Rattle.mask_runs.proofs.write.equal_first.Given as goal

abbrev pub invariant-loop-i : goal.invariant-loop-i
invariant-loop-i l = (k : ℕ) → k < l.i → get_or (ending_with l.mask l.last) k 0 ≡ get_or (ending_with l.mask l.last) 0 0
