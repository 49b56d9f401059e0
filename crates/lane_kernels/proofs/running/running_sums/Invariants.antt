use Rattle.std.proofs.Common.{◌≡◌, ◌-◌, ◌≤◌, length}
use Rattle.lane_kernels.specs.Running.{byte_before}
use Rattle.lane_kernels.proofs.LaneSums.{AreSummed}
use Rattle.lane_kernels.proofs.running.running_sums.Given as goal

abbrev pub invariant-loop-bytes : goal.invariant-loop-bytes
invariant-loop-bytes l = record {
  room : length l.bytes ≡ length l.fn.bytes;
  within : l.at ≤ length l.fn.bytes;
  before : l.before ≡ byte_before l.fn.first l.bytes l.at;
  summed : AreSummed l.fn.first l.fn.bytes l.bytes l.at;
}

abbrev pub decreases-loop-bytes : goal.decreases-loop-bytes
decreases-loop-bytes l = length l.fn.bytes - l.at

abbrev pub invariant-loop-at : goal.invariant-loop-at
invariant-loop-at l = record {
  room : length l.bytes ≡ length l.fn.bytes;
  within : l.at ≤ length l.fn.bytes;
  before : l.before ≡ byte_before l.fn.first l.bytes l.at;
  summed : AreSummed l.fn.first l.fn.bytes l.bytes l.at;
}

abbrev pub decreases-loop-at : goal.decreases-loop-at
decreases-loop-at l = length l.fn.bytes - l.at
