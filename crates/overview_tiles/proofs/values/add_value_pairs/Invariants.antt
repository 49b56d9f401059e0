use Rattle.std.proofs.Common.{◌*◌, map}
use Rattle.overview_tiles.specs.inside.Comes.{GrowsSums, in_row, piece_amount}
use Rattle.overview_tiles.proofs.values.add_value_pairs.Given as goal

abbrev pub invariant-loop-k : goal.invariant-loop-k
invariant-loop-k g l = GrowsSums l.piece.depth l.piece.d (in_row l.piece.base l.piece.col) (piece_amount l.piece.first l.piece.depth l.piece.d l.cells.values) (2 * l.k) (map g.S.Sum.number l.initial.sums) (map g.S.Sum.number l.sums)
