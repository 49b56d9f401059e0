use Rattle.std.proofs.Common.{◌≡◌, ◌+◌, ◌≤◌, IsTrue}
use Rattle.outside_io.specs.declared.volume.VolFile.TheVariants.{Bundle}
use Rattle.outside_io.specs.volume.History.{During, contents, current}
use Rattle.bundle_store.specs.Ahead.{IsAheadOf}
use Rattle.bundle_store.specs.Check.{Reports}
use Rattle.bundle_store.specs.inside.Checking.{IsSmall}
use Rattle.bundle_store.proofs.check.check_index.Given as goal

abbrev pub invariant-loop-number : goal.invariant-loop-number
invariant-loop-number g l = record {
  small : IsSmall l.number l.all;
  report : IsTrue (g.V.Volume.told l.fn.vol) → Reports (contents Bundle (g.V.Volume.history l.fn.vol)) l.number l.all;
  words : IsTrue (g.V.Volume.told l.fn.vol) → IsAheadOf (contents Bundle (g.V.Volume.history l.fn.vol)) l.words;
  during : IsTrue (g.V.Volume.told l.fn.vol) → During (λ d. d ≡ current (g.V.Volume.history l.fn.vol)) (g.V.Volume.history l.fn.vol) (g.V.Volume.history l.vol);
  calls : (g.V.Volume.history l.vol).moment ≤ (g.V.Volume.history l.fn.vol).moment + l.number;
  needed : (g.V.Volume.history l.vol).moment ≤ (g.V.Volume.history l.fn.vol).moment + l.all.tiles;
  told : g.V.Volume.told l.vol ≡ g.V.Volume.told l.fn.vol;
  counted : g.V.Volume.faults l.vol ≡ g.V.Volume.faults l.fn.vol;
}
