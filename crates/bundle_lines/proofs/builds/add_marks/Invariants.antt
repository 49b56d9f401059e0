use Rattle.std.proofs.Common.{◌≡◌, ◌+◌, ◌≤◌, ◌++◌, replicate}
use Rattle.bundle_lines.proofs.builds.add_marks.Given as goal

abbrev pub invariant-loop-turn : goal.invariant-loop-turn
invariant-loop-turn l = record {
  marks_are : l.marks.marks ≡ l.fn.marks.marks ++ replicate l._turn l.mark;
  room : l.count ≤ l.marks.spare + l._turn;
  spare : l.fn.marks.spare ≤ l.marks.spare + l._turn;
}
