use Rattle.std.proofs.Common.{◌≡◌, ◌≤◌}
use Rattle.delta_mode.specs.inside.Pieces.{rank, mark_at}
use Rattle.delta_mode.proofs.plain_taking.count_set.Given as goal

abbrev pub invariant-loop-i : goal.invariant-loop-i
invariant-loop-i l = record {
  count : l.count ≡ rank (mark_at l.marks) l.i;
  few : l.count ≤ l.i;
}
