use Rattle.std.proofs.Common.{◌-◌, length}
use Rattle.mask_runs.specs.Ending.{ending_with}
use Rattle.mask_runs.proofs.Writing.{Written}
use Rattle.mask_runs.proofs.write.write_runs_with.Given as goal

abbrev pub invariant-loop-from : goal.invariant-loop-from
invariant-loop-from l = Written (ending_with l.mask l.last) l.out l.from l.to

abbrev pub decreases-loop-from : goal.decreases-loop-from
decreases-loop-from l = length l.mask - l.from
