use Rattle.std.proofs.Common.{◌*◌}
use Rattle.overview_tiles.specs.inside.Comes.{GrowsCounts, in_row, marks_amount}
use Rattle.overview_tiles.proofs.layer.add_mark_pairs.Given as goal

abbrev pub invariant-loop-k : goal.invariant-loop-k
invariant-loop-k l = GrowsCounts (in_row l.base l.col) (marks_amount l.marks) (2 * l.k) l.initial.counts l.counts
