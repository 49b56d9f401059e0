use Rattle.std.proofs.Common.{◌≡◌, ◌-◌, length}
use Rattle.tile_updates.specs.inside.SoFar.{IsHeld}
use Rattle.tile_updates.proofs.updates.read_updates.Given as goal

abbrev pub invariant-loop-next : goal.invariant-loop-next
invariant-loop-next g l =
    IsHeld l.coding.version l.coding.step (g.S.Source.left l.fn.src) (g.S.Source.left l.src) l.done l.waiting l.next
    × (g.S.Source.faults l.src ≡ g.S.Source.faults l.fn.src)

abbrev pub decreases-loop-next : goal.decreases-loop-next
decreases-loop-next g l = 1048576 - length l.done.list
