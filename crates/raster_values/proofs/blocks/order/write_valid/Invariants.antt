use Rattle.std.proofs.Common.{◌-◌, length}
use Rattle.raster_values.proofs.Scattered.{Writes}
use Rattle.raster_values.proofs.blocks.order.write_valid.Given as goal

abbrev pub invariant-loop-at : goal.invariant-loop-at
invariant-loop-at l = Writes l.values.kind l.depth l.marks l.values.values (length l.initial.out) l.out l.at l.from

abbrev pub decreases-loop-at : goal.decreases-loop-at
decreases-loop-at l = length l.marks - l.at
