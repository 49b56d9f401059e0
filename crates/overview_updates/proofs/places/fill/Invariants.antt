use Rattle.std.proofs.Common.{◌≡◌, ◌-◌, IsTrue}
use Rattle.outside_io.specs.declared.volume.VolFile.TheVariants.{Bundle}
use Rattle.outside_io.specs.volume.History.{contents}
use Rattle.overview_updates.specs.inside.Reads.{CanRead}
use Rattle.overview_updates.specs.inside.SoFar.{AreWaiting}
use Rattle.overview_updates.proofs.Still.{Stays}
use Rattle.overview_updates.proofs.places.fill.Given as goal

abbrev pub invariant-loop-waiting : goal.invariant-loop-waiting
invariant-loop-waiting g l = record {
  waiting : AreWaiting (g.V.Volume.told l.fn.vol) (contents Bundle (g.V.Volume.history l.fn.vol)) l.asked.quarter l.asked.coding.version l.place l.waiting;
  faults : g.V.Volume.faults l.vol ≡ g.V.Volume.faults l.fn.vol;
  same : g.V.Volume.told l.vol ≡ g.V.Volume.told l.fn.vol;
  stays : IsTrue (g.V.Volume.told l.fn.vol) → Stays (g.V.Volume.history l.fn.vol) (g.V.Volume.history l.vol);
  reading : CanRead g.V.Volume.told g.V.Volume.history l.reading l.vol;
}

abbrev pub decreases-loop-waiting : goal.decreases-loop-waiting
decreases-loop-waiting g l = 4096 - l.waiting.place
