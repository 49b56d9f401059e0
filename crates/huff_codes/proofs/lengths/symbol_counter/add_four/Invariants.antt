use Rattle.std.proofs.Common.{take}
use Rattle.huff_codes.specs.inside.Tallied.{AreAdded}
use Rattle.huff_codes.proofs.lengths.symbol_counter.add_four.Given as goal

abbrev pub invariant-loop-i : goal.invariant-loop-i
invariant-loop-i l = record {
  one : AreAdded (take l.i l.one) l.fn.counts.first l.counts.first;
  two : AreAdded (take l.i l.two) l.fn.counts.second l.counts.second;
  three : AreAdded (take l.i l.three) l.fn.counts.third l.counts.third;
  four : AreAdded (take l.i l.four) l.fn.counts.fourth l.counts.fourth;
}
