use Rattle.std.proofs.Common.{◌≡◌, []}
use Rattle.outside_io.specs.streams.Source.{TakesUpTo}
use Rattle.lerc_decode.specs.Decoding.{IsStageOf}
use Rattle.lerc_decode.specs.Feeding.{Begins, Follows, Joins}
use Rattle.lerc_decode.specs.inside.Feeding.{work_left}
use Rattle.lerc_decode.proofs.streams.from_source.feed_from.Given as goal

abbrev pub invariant-loop-got : goal.invariant-loop-got
invariant-loop-got g l = record {
  stands : IsStageOf l.decoder.before l.decoder.taken l.decoder.stage;
  fed : Follows l.decoder.stage (Joins (g.S.Source.left l.fn.src) (g.S.Source.left l.src) l.fn.decoder.taken l.decoder.taken);
  begins : Begins (g.S.Source.left l.fn.src) l.fn.decoder.taken l.decoder.taken;
  few : l.fn.decoder.taken ≡ [] → TakesUpTo 134217728 (g.S.Source.left l.fn.src) (g.S.Source.left l.src);
  faults : g.S.Source.faults l.src ≡ g.S.Source.faults l.fn.src;
  before : l.decoder.before ≡ l.fn.decoder.before;
}

abbrev pub decreases-loop-got : goal.decreases-loop-got
decreases-loop-got g l = work_left l.decoder
