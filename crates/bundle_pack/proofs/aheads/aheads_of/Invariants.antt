use Rattle.std.proofs.Common.{◌≡◌, [], length}
use Rattle.std.specs.Prelude.{All}
use Rattle.bundle_pack.proofs.aheads.aheads_of.Given as goal

abbrev pub invariant-loop-number : goal.invariant-loop-number
invariant-loop-number l = record {
  many : length l.aheads.items ≡ length l.sessions;
  none : All (λ a. a.bytes ≡ []) l.aheads.items;
}
