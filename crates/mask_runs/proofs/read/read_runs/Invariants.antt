use Rattle.std.proofs.Common.{◌-◌, ◌≤◌, length, take}
use Rattle.mask_runs.specs.Runs.{AreJoinedRuns}
use Rattle.mask_runs.proofs.read.read_runs.Given as goal

abbrev pub invariant-loop-taken : goal.invariant-loop-taken
invariant-loop-taken l = record {
  within : l.at ≤ length l.bytes;
  room : l.filled ≤ length l.out;
  joined : AreJoinedRuns (take l.at l.bytes) (take l.filled l.out);
}

abbrev pub decreases-loop-taken : goal.decreases-loop-taken
decreases-loop-taken l = length l.bytes - l.at
