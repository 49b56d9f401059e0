use Rattle.std.proofs.Common.{◌≡◌, ℕ, ℤ, ◌+◌, ◌*◌, ◌<◌, get_or, map}
use Rattle.std.specs.Prelude.{pos, ◌*ℤ◌, ◌≤ℤ◌}
use Rattle.overview_tiles.specs.Half.{mean_of}
use Rattle.overview_tiles.proofs.halving.means_of_four.Given as goal

abbrev pub invariant-loop-i : goal.invariant-loop-i
invariant-loop-i g l = record {
  values : (j : ℕ) → j < l.i → get_or l.out j (pos 0) ≡ mean_of (get_or (map g.S.Sum.number l.sums) ((l.place + j) * l.depth + l.d) (pos 0)) (pos 4);
  least : (j : ℕ) (least : ℤ) → j < l.i → (pos 4 *ℤ least) ≤ℤ get_or (map g.S.Sum.number l.sums) ((l.place + j) * l.depth + l.d) (pos 0) → least ≤ℤ get_or l.out j (pos 0);
  greatest : (j : ℕ) (greatest : ℤ) → j < l.i → get_or (map g.S.Sum.number l.sums) ((l.place + j) * l.depth + l.d) (pos 0) ≤ℤ (pos 4 *ℤ greatest) → get_or l.out j (pos 0) ≤ℤ greatest;
}
