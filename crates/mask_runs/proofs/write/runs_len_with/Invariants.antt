use Rattle.std.proofs.Common.{◌-◌, length}
use Rattle.mask_runs.specs.Ending.{ending_with}
use Rattle.mask_runs.proofs.Writing.{Measuring}
use Rattle.mask_runs.proofs.write.runs_len_with.Given as goal

abbrev pub invariant-loop-at : goal.invariant-loop-at
invariant-loop-at l = Measuring (ending_with l.mask l.last) l.size l.at

abbrev pub decreases-loop-at : goal.decreases-loop-at
decreases-loop-at l = length l.mask - l.at
