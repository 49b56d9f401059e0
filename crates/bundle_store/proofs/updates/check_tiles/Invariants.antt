use Rattle.std.proofs.Common.{ℕ, ◌<◌, length}
use Rattle.bundle_store.specs.Build.{bytes_at}
use Rattle.bundle_store.proofs.updates.check_tiles.Given as goal

abbrev pub invariant-loop-at : goal.invariant-loop-at
invariant-loop-at l = (i : ℕ) → i < l.at → (0 < length (bytes_at l.tiles i)) × (length (bytes_at l.tiles i) < 16777216)
