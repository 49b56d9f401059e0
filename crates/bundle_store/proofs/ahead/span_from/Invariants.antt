use Rattle.std.proofs.Common.{◌≤◌}
use Rattle.bundle_store.proofs.ahead.span_from.Given as goal

abbrev pub invariant-loop-number : goal.invariant-loop-number
invariant-loop-number l = l.start ≤ l.end
