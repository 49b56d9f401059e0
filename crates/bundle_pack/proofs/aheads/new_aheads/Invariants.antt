use Rattle.std.proofs.Common.{◌≡◌, [], length}
use Rattle.std.specs.Prelude.{All}
use Rattle.bundle_pack.proofs.aheads.new_aheads.Given as goal

abbrev pub invariant-loop-at : goal.invariant-loop-at
invariant-loop-at l = record {
  many : length l.aheads.items ≡ l.at;
  none : All (λ a. a.bytes ≡ []) l.aheads.items;
}
