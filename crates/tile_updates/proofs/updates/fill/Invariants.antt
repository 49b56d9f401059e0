use Rattle.std.proofs.Common.{◌≡◌, ◌≤◌, ◌-◌, length}
use Rattle.tile_updates.specs.inside.SoFar.{AreWaiting}
use Rattle.tile_updates.proofs.updates.fill.Given as goal

abbrev pub invariant-loop-waiting : goal.invariant-loop-waiting
invariant-loop-waiting g l =
    AreWaiting l.coding.version l.place (g.S.Source.left l.fn.src) (g.S.Source.left l.src) l.waiting
    × ((length l.waiting.batch ≤ l.room) × (g.S.Source.faults l.src ≡ g.S.Source.faults l.fn.src))

abbrev pub decreases-loop-waiting : goal.decreases-loop-waiting
decreases-loop-waiting g l = l.room - length l.waiting.batch
