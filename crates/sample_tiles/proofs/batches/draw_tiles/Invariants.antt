use Rattle.std.proofs.Common.{◌≡◌, ◌+◌, ◌*◌, ℕ}
use Rattle.sample_tiles.specs.Drawn.{drawn}
use Rattle.sample_tiles.specs.inside.Batches.{AreTiles}
use Rattle.sample_tiles.proofs.batches.draw_tiles.Given as goal

abbrev pub invariant-loop : goal.invariant-loop
invariant-loop l = record {
  tiles : (start first : ℕ) → l.fn.x ≡ drawn start (4096 * first) → AreTiles start first l.counter l.tiles.items;
  number : (start first : ℕ) → l.fn.x ≡ drawn start (4096 * first) → l.x ≡ drawn start (4096 * (first + l.counter));
}
