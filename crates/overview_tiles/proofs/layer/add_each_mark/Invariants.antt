use Rattle.overview_tiles.specs.inside.Comes.{GrowsCounts, in_row, marks_amount}
use Rattle.overview_tiles.proofs.layer.add_each_mark.Given as goal

abbrev pub invariant-loop-i : goal.invariant-loop-i
invariant-loop-i l = GrowsCounts (in_row l.base l.col) (marks_amount l.marks) l.i l.initial.counts l.counts
