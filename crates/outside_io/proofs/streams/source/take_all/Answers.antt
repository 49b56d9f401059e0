use Rattle.std.proofs.Common.{arith, ◌∙◌}
use Rattle.std.proofs.lemmas.List.{places}
use Rattle.outside_io.proofs.StreamLemmas.Takes.{TakesFront_more, TakesFront_stop}
use Rattle.outside_io.proofs.streams.source.take_all.Goals as goal

pub loop-at-preserved : goal.loop-at-preserved
loop-at-preserved g c = record {
  unchanged = λ none. absurd (omega arith);
  within = grind (arith, places);
  taken = TakesFront_more _ _ _ c.loop-at.buf c.take.new.buf c.loop-at.at c.in_ok-n.n c.loop-at.invariant.within c.in_ok-n.ensures.within c.loop-at.invariant.taken c.in_ok-n.ensures.bytes;
  faults = c.in_ok-n.ensures.counted ∙ c.loop-at.invariant.faults;
}

pub returns-then-n-eq0-clause-bytes : goal.returns-then-n-eq0-clause-bytes
returns-then-n-eq0-clause-bytes g c =
    TakesFront_stop _ _ _ c.loop-at.buf c.take.new.buf c.loop-at.at c.in_ok-n.n c.loop-at.invariant.within c.in_ok-n.ensures.within c.if-n-eq0.true c.loop-at.invariant.taken c.in_ok-n.ensures.bytes
