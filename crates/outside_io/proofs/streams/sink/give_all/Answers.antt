use Rattle.std.proofs.Common.{arith, ◌∙◌}
use Rattle.std.proofs.lemmas.List.{take_rest}
use Rattle.outside_io.proofs.StreamLemmas.Gives.{Holds_more}
use Rattle.outside_io.proofs.streams.sink.give_all.Goals as goal

pub loop-at-preserved : goal.loop-at-preserved
loop-at-preserved g c = record {
  unchanged = λ none. absurd (omega arith);
  within = omega (arith, c.in_ok-n.ensures.within);
  held = Holds_more _ _ _ c.args.bytes.now c.loop-at.at c.in_ok-n.n c.loop-at.invariant.held (rw take_rest at c.in_ok-n.ensures.bytes);
  faults = c.in_ok-n.ensures.counted ∙ c.loop-at.invariant.faults;
}
