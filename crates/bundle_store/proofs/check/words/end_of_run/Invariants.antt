use Rattle.std.proofs.Common.{◌+◌, ◌≤◌}
use Rattle.bundle_store.proofs.check.words.end_of_run.Given as goal

abbrev pub invariant-loop-next : goal.invariant-loop-next
invariant-loop-next l = (l.at + 4 ≤ l.end) × (l.end ≤ l.at + 65536)
