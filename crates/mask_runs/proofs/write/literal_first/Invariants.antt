use Rattle.mask_runs.specs.Ending.{ending_with}
use Rattle.mask_runs.proofs.Equal.{Searching}
use Rattle.mask_runs.proofs.write.literal_first.Given as goal

abbrev pub invariant-loop-i : goal.invariant-loop-i
invariant-loop-i l = Searching (ending_with l.mask l.last) l.start l.i
