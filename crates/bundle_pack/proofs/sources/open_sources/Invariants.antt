use Rattle.std.proofs.Common.{◌≡◌, length}
use Rattle.bundle_pack.specs.Sources.{Each}
use Rattle.bundle_pack.specs.inside.Turns.{IsTurn}
use Rattle.bundle_pack.proofs.sources.open_sources.Given as goal

abbrev pub invariant-loop-at : goal.invariant-loop-at
invariant-loop-at g l = record {
  end : l.at-end ≡ length l.fn.from;
  pushed : length l.sessions.items ≡ l.at;
  turns : Each (λ i v w. IsTurn g.V.Volume.told g.V.Volume.history g.V.Volume.faults l.sessions.items l.at i v w) l.fn.from l.from;
}
