use Rattle.std.proofs.Common.{◌≡◌}
use Rattle.bundle_pack.proofs.aheads.pass_over.Given as goal

abbrev pub invariant-loop-at : goal.invariant-loop-at
invariant-loop-at l = l.aheads ≡ l.fn.aheads
