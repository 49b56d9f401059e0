use Rattle.std.proofs.Common.{◌≡◌, ◌≤◌, ◌+◌, ◌-◌, IsTrue, length}
use Rattle.outside_io.specs.declared.volume.VolFile.TheVariants.{Bundle}
use Rattle.outside_io.specs.volume.History.{contents}
use Rattle.overview_updates.specs.inside.Fours.{IsRound}
use Rattle.overview_updates.specs.inside.Reads.{CanRead}
use Rattle.overview_updates.proofs.Still.{Stays}
use Rattle.overview_updates.proofs.places.read_round.Given as goal

-- The places so far were read; before the first one was, nothing is counted.
abbrev pub invariant-loop-at : goal.invariant-loop-at
invariant-loop-at g l = record {
  round : IsRound (g.V.Volume.told l.fn.vol) (contents Bundle (g.V.Volume.history l.fn.vol)) l.place l.fours.items;
  numbered : l.at ≡ l.place + length l.fours.items;
  within : l.at ≤ 4096;
  begun : l.at ≡ l.place → (l.some ≡ 0) × (l.bytes ≡ 0);
  faults : g.V.Volume.faults l.vol ≡ g.V.Volume.faults l.fn.vol;
  same : g.V.Volume.told l.vol ≡ g.V.Volume.told l.fn.vol;
  stays : IsTrue (g.V.Volume.told l.fn.vol) → Stays (g.V.Volume.history l.fn.vol) (g.V.Volume.history l.vol);
  reading : CanRead g.V.Volume.told g.V.Volume.history l.reading l.vol;
}

abbrev pub decreases-loop-at : goal.decreases-loop-at
decreases-loop-at g l = 4096 - l.at
