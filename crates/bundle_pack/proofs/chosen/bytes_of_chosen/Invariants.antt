use Rattle.std.proofs.Common.{◌≡◌, ◌≤◌, ◌*◌, List, ℕ}
use Rattle.bundle_pack.specs.Chosen.{chosen_bytes}
use Rattle.bundle_pack.specs.inside.Collecting.{AreServed}
use Rattle.bundle_pack.proofs.chosen.bytes_of_chosen.Given as goal

abbrev pub invariant-loop-number : goal.invariant-loop-number
invariant-loop-number l = record {
  few : l.sum ≤ l.number * 16777216;
  is : (bundles : List (List ℕ)) → AreServed l.sessions bundles → l.sum ≡ chosen_bytes bundles l.number;
}
