use Rattle.std.proofs.Common.{arith}
use Rattle.lane_kernels.specs.inside.Moved.{AreWindows}
use Rattle.lane_kernels.proofs.LaneSums.{windows_all, windows_one, windows_twice}
use Rattle.lane_kernels.proofs.running.sums_of.Goals as goal

pub returns-clause-sums : goal.returns-clause-sums
returns-clause-sums c =
    let xs = c.args.lanes in
    let size = c.fits-lanes.0 in
    let one : AreWindows xs 1 xs = windows_one xs size c.fits-lanes.1 in
    let two : AreWindows xs 2 c.add_lanes-two.result = windows_twice xs 1 xs c.up_one.result c.add_lanes-two.result size (omega arith) one c.up_one.ensures.moved c.add_lanes-two.ensures.lanes in
    let four : AreWindows xs 4 c.add_lanes-four.result = windows_twice xs 2 c.add_lanes-two.result c.up_two.result c.add_lanes-four.result size (omega arith) two c.up_two.ensures.moved c.add_lanes-four.ensures.lanes in
    let eight : AreWindows xs 8 c.add_lanes-eight.result = windows_twice xs 4 c.add_lanes-four.result c.up_four.result c.add_lanes-eight.result size (omega arith) four c.up_four.ensures.moved c.add_lanes-eight.ensures.lanes in
    let all : AreWindows xs 16 c.add_lanes.result = windows_twice xs 8 c.add_lanes-eight.result c.up_eight.result c.add_lanes.result size (omega arith) eight c.up_eight.ensures.moved c.add_lanes.ensures.lanes in
    windows_all xs c.add_lanes.result all
