use Rattle.std.proofs.Common.{◌≡◌, ℕ, ◌+◌, ◌<◌, length, get_or, map}
use Rattle.std.specs.Prelude.{pos}
use Rattle.raster_cells.specs.declared.kind.PixelType.{PixelType}
use Rattle.raster_cells.specs.PixelType.{InRange}
use Rattle.overview_tiles.specs.inside.Means.{HaveMeans, mean_at}
use Rattle.overview_tiles.proofs.halving.means_of_each.Given as goal

abbrev pub invariant-loop-i : goal.invariant-loop-i
invariant-loop-i g l = record {
  values : (j : ℕ) → j < l.i → get_or l.out j (pos 0) ≡ mean_at l.depth l.counts (map g.S.Sum.number l.sums) l.d (l.place + j);
  in_range : (kind : PixelType) → HaveMeans kind (length l.counts) l.depth l.counts (map g.S.Sum.number l.sums) → (j : ℕ) → j < l.i → InRange kind (get_or l.out j (pos 0));
}
