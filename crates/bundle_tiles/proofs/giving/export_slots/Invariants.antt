use Rattle.std.proofs.Common.{◌≡◌, take, IsTrue}
use Rattle.outside_io.specs.declared.volume.VolFile.TheVariants.{Bundle}
use Rattle.outside_io.specs.streams.Sink.{Holds}
use Rattle.outside_io.specs.volume.History.{During, contents, current}
use Rattle.bundle_tiles.specs.Exported.{GaveTiles}
use Rattle.bundle_tiles.proofs.giving.export_slots.Given as goal

abbrev pub invariant-loop-slot : goal.invariant-loop-slot
invariant-loop-slot g l = record {
  gave : GaveTiles (g.V.Volume.told l.fn.vol) (contents Bundle (g.V.Volume.history l.fn.vol)) (take l.slot-index l.slots) (Holds (g.K.Sink.held l.fn.out) (g.K.Sink.held l.out));
  same : g.V.Volume.told l.vol ≡ g.V.Volume.told l.fn.vol;
  during : IsTrue (g.V.Volume.told l.fn.vol) → During (λ d. d ≡ current (g.V.Volume.history l.fn.vol)) (g.V.Volume.history l.fn.vol) (g.V.Volume.history l.vol);
  volume : g.V.Volume.faults l.vol ≡ g.V.Volume.faults l.fn.vol;
  output : g.K.Sink.faults l.out ≡ g.K.Sink.faults l.fn.out;
}
