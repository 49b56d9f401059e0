use Rattle.std.proofs.Common.{◌≡◌, ◌+◌, ◌≤◌, ℕ, length}
use Rattle.sample_tiles.specs.Sums.{AreSums}
use Rattle.sample_tiles.specs.inside.Batches.{AreRoomy, AreTiles}
use Rattle.sample_tiles.proofs.adding.add_all.Given as goal

abbrev pub invariant-loop-i : goal.invariant-loop-i
invariant-loop-i l = record {
  tiles : l.sums.tiles ≡ l.fn.sums.tiles + l.i;
  roomy : AreRoomy l.sums;
  near : l.sums.worst ≤ 1;
  sums : (start : ℕ) → AreTiles start l.fn.sums.tiles (length l.tiles) l.tiles → AreSums start l.fn.sums.tiles l.fn.sums → AreSums start l.sums.tiles l.sums;
}
