use Rattle.std.proofs.Common.{ℕ, ◌<◌, length}
use Rattle.bundle_store.specs.Build.{bytes_at}
use Rattle.cut_cases.proofs.words.tiles.are_fit.Given as goal

abbrev pub invariant-loop-i : goal.invariant-loop-i
invariant-loop-i l = (k : ℕ) → k < l.i → (0 < length (bytes_at l.tiles k)) × (length (bytes_at l.tiles k) < 16777216)
