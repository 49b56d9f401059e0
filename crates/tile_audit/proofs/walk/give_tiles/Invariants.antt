use Rattle.std.proofs.Common.{◌≡◌, ◌-◌, IsTrue}
use Rattle.outside_io.specs.declared.volume.VolFile.TheVariants.{Bundle}
use Rattle.outside_io.specs.volume.History.{During, contents, current}
use Rattle.tile_audit.proofs.Standing.{Stands}
use Rattle.tile_audit.proofs.walk.give_tiles.Given as goal

-- The lines of the slots so far are given.
abbrev pub invariant-loop-next : goal.invariant-loop-next
invariant-loop-next g l =
    Stands (g.V.Volume.told l.fn.vol) (contents Bundle (g.V.Volume.history l.fn.vol)) l.all l.next l.totals (g.V.Volume.faults l.fn.vol) (g.V.Volume.faults l.vol)
    (g.K.Sink.held l.fn.out) (g.K.Sink.held l.out)
    × ((g.K.Sink.faults l.out ≡ g.K.Sink.faults l.fn.out) × ((g.V.Volume.told l.vol ≡ g.V.Volume.told l.fn.vol)
    × (IsTrue (g.V.Volume.told l.fn.vol) → During (λ d. d ≡ current (g.V.Volume.history l.fn.vol)) (g.V.Volume.history l.fn.vol) (g.V.Volume.history l.vol))))

abbrev pub decreases-loop-next : goal.decreases-loop-next
decreases-loop-next g l = 16384 - l.next
