use Rattle.std.proofs.Common.{◌≡◌, ◌≤◌, ◌-◌, [], IsTrue}
use Rattle.outside_io.specs.declared.volume.VolFile.TheVariants.{Bundle}
use Rattle.outside_io.specs.volume.History.{During, contents, current}
use Rattle.tile_audit.specs.inside.Walks.{AreWaiting}
use Rattle.tile_audit.proofs.walk.fill.Given as goal

-- The tiles of the slots so far wait; nothing waits before the first of them was looked at.
abbrev pub invariant-loop-number : goal.invariant-loop-number
invariant-loop-number g l =
    AreWaiting (g.V.Volume.told l.fn.vol) (contents Bundle (g.V.Volume.history l.fn.vol)) l.from l.number l.batch (g.V.Volume.faults l.fn.vol) (g.V.Volume.faults l.vol)
    × ((l.from ≤ l.number) × ((l.number ≤ 16384) × ((l.number ≡ l.from → l.batch ≡ []) × ((g.V.Volume.told l.vol ≡ g.V.Volume.told l.fn.vol)
    × (IsTrue (g.V.Volume.told l.fn.vol) → During (λ d. d ≡ current (g.V.Volume.history l.fn.vol)) (g.V.Volume.history l.fn.vol) (g.V.Volume.history l.vol))))))

abbrev pub decreases-loop-number : goal.decreases-loop-number
decreases-loop-number g l = 16384 - l.number
