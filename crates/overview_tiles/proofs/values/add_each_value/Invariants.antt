use Rattle.std.proofs.Common.{map}
use Rattle.overview_tiles.specs.inside.Comes.{GrowsSums, in_row, piece_amount}
use Rattle.overview_tiles.proofs.values.add_each_value.Given as goal

abbrev pub invariant-loop-i : goal.invariant-loop-i
invariant-loop-i g l = GrowsSums l.piece.depth l.piece.d (in_row l.piece.base l.piece.col) (piece_amount l.piece.first l.piece.depth l.piece.d l.cells.values) l.i (map g.S.Sum.number l.initial.sums) (map g.S.Sum.number l.sums)
