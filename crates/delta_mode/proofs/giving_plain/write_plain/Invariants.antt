use Rattle.std.proofs.Common.{◌≡◌, ℕ, ◌+◌, ◌*◌, ◌<◌, length, get_or}
use Rattle.raster_values.specs.Flat.{valid_from}
use Rattle.delta_mode.proofs.Gathered.{distances}
use Rattle.delta_mode.proofs.giving_plain.write_plain.Given as goal

abbrev pub invariant-loop-d : goal.invariant-loop-d
invariant-loop-d g l = record {
  gathered : length l.gathered ≡ length l.fn.gathered;
  room : length l.out ≡ length l.fn.out;
  valid : (e : ℕ) → e < l.d → l.valid ≡ length (valid_from (g.V.View.pixels l.raster) l.place l.count);
  done : (e : ℕ) → e < l.d → (j : ℕ) → j < length (valid_from (g.V.View.pixels l.raster) l.place l.count)
      → get_or l.out (j * l.depth + e) 0 ≡ get_or (distances (g.V.View.pixels l.raster) e l.place l.count) j 0;
}
