use Rattle.std.proofs.Common.{◌≡◌, ◌+◌, ◌*◌, ℕ}
use Rattle.sample_tiles.specs.Drawn.{drawn}
use Rattle.sample_tiles.specs.inside.Drawing.{IsDrawn, IsOpenFrom}
use Rattle.sample_tiles.proofs.draw.draw.Given as goal

abbrev pub invariant-loop-k : goal.invariant-loop-k
invariant-loop-k l = record {
  open_from : IsOpenFrom l.k l.tile;
  tile : (start t : ℕ) → l.fn.x ≡ drawn start (4096 * t) → IsDrawn start t l.k l.tile;
  number : (start t : ℕ) → l.fn.x ≡ drawn start (4096 * t) → l.x ≡ drawn start (4096 * t + l.k);
}
