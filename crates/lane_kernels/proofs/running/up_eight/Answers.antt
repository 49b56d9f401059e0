use Rattle.std.proofs.Common.{arith}
use Rattle.lane_kernels.proofs.LaneSums.{moved_is}
use Rattle.lane_kernels.proofs.running.up_eight.Goals as goal

pub returns-clause-moved : goal.returns-clause-moved
returns-clause-moved c = moved_is 8 c.args.lanes (omega arith) (omega (arith, c.fits-lanes.0))
