use Rattle.std.proofs.Common.{◌≡◌, ◌*◌, ◌≤◌}
use Rattle.bundle_tiles.proofs.Importing.{ImportsSoFar}
use Rattle.bundle_tiles.proofs.taking.import_all.Given as goal

abbrev pub invariant-loop-turn : goal.invariant-loop-turn
invariant-loop-turn g l = record {
  so : ImportsSoFar l._turn l.at (g.S.Source.left l.fn.src) (g.S.Source.left l.src) l.session (g.V.Volume.told l.fn.vol) (g.V.Volume.told l.vol) (g.V.Volume.history l.fn.vol) (g.V.Volume.history l.vol) (g.K.Sink.held l.fn.out) (g.K.Sink.held l.out);
  place : l.at ≤ 1073742208 * l._turn;
  volume : g.V.Volume.faults l.vol ≡ g.V.Volume.faults l.fn.vol;
  output : g.K.Sink.faults l.out ≡ g.K.Sink.faults l.fn.out;
  source : g.S.Source.faults l.src ≡ g.S.Source.faults l.fn.src;
}
