use Rattle.std.proofs.Common.{◌≡◌, ◌≤◌, length, List, ℕ, slice_get, Some}
use Rattle.bundle_index.specs.Entry.{entry_at}
use Rattle.bundle_pack.specs.inside.Collecting.{AreServed}
use Rattle.bundle_pack.proofs.chosen.choice_at.Given as goal

abbrev pub invariant-loop-at : goal.invariant-loop-at
invariant-loop-at l = record {
  within : l.at ≤ length l.sessions;
  later : (bundles : List (List ℕ)) → AreServed l.sessions bundles → (i : ℕ) (b : List ℕ) → l.at ≤ i → slice_get bundles i ≡ Some b → (entry_at b l.slot).size ≡ 0;
}

abbrev pub decreases-loop-at : goal.decreases-loop-at
decreases-loop-at l = l.at
