use Rattle.std.proofs.Common.{◌≡◌, ◌<◌, ◌≤◌, ◌-ℤ◌, ℕ, pos, get_or}
use Rattle.std.specs.Prelude.{unsigned_abs}
use Rattle.sample_tiles.proofs.adding.greatest_difference.Given as goal

abbrev pub invariant-loop-i : goal.invariant-loop-i
invariant-loop-i l = record {
  bound : (k : ℕ) → k < l.i → unsigned_abs (get_or l.given k (pos 0) -ℤ get_or l.found k (pos 0)) ≤ l.greatest;
  met : 0 < l.greatest → (k : ℕ) × ((k < l.i) × (unsigned_abs (get_or l.given k (pos 0) -ℤ get_or l.found k (pos 0)) ≡ l.greatest));
}
