use Rattle.std.proofs.Common.{◌≡◌, ◌≤◌, ◌-◌, length}
use Rattle.outside_io.specs.streams.Source.{TakesFront}
use Rattle.outside_io.proofs.streams.source.take_all.Given as goal

abbrev pub invariant-loop-at : goal.invariant-loop-at
invariant-loop-at g l = record {
  within : l.at ≤ length l.buf;
  unchanged : length l.buf ≡ 0 → l.source ≡ l.fn.source;
  taken : TakesFront (g.S.Source.left l.fn.source) (g.S.Source.left l.source) l.at l.buf;
  faults : g.S.Source.faults l.source ≡ g.S.Source.faults l.fn.source;
}

abbrev pub decreases-loop-at : goal.decreases-loop-at
decreases-loop-at g l = length l.buf - l.at
