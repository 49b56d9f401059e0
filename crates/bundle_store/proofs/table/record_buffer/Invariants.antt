use Rattle.std.proofs.Common.{ℕ, ◌<◌, ◌≤◌, length}
use Rattle.bundle_store.specs.Build.{bytes_at}
use Rattle.bundle_store.proofs.table.record_buffer.Given as goal

abbrev pub invariant-loop-i : goal.invariant-loop-i
invariant-loop-i l = record {
  room : (k : ℕ) → k < l.i → length (bytes_at l.tiles k) ≤ l.most;
  small : l.most < 16777216;
  gathered : l.gathered ≤ 1048576;
}
