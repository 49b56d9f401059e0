use Rattle.std.proofs.Common.{◌≡◌, ◌≤◌, ◌-◌, IsTrue, length}
use Rattle.outside_io.specs.declared.volume.VolFile.TheVariants.{Bundle}
use Rattle.outside_io.specs.volume.History.{contents}
use Rattle.overview_updates.specs.inside.Reads.{CanRead}
use Rattle.overview_updates.specs.inside.SoFar.{IsSoFar}
use Rattle.overview_updates.proofs.Still.{Stays}
use Rattle.overview_updates.proofs.updates.read_overview.Given as goal

abbrev pub invariant-loop-done : goal.invariant-loop-done
invariant-loop-done g l = record {
  so_far : IsSoFar (g.V.Volume.told l.fn.vol) (contents Bundle (g.V.Volume.history l.fn.vol)) l.asked.quarter l.asked.coding.version l.asked.coding.step l.done;
  few : length l.done.list ≤ l.done.place;
  within : l.done.place ≤ 4096;
  faults : g.V.Volume.faults l.vol ≡ g.V.Volume.faults l.fn.vol;
  same : g.V.Volume.told l.vol ≡ g.V.Volume.told l.fn.vol;
  stays : IsTrue (g.V.Volume.told l.fn.vol) → Stays (g.V.Volume.history l.fn.vol) (g.V.Volume.history l.vol);
  reading : CanRead g.V.Volume.told g.V.Volume.history l.reading l.vol;
}

abbrev pub decreases-loop-done : goal.decreases-loop-done
decreases-loop-done g l = 4096 - l.done.place
