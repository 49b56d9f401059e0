-- A raster laid into the numbers of a band, pixel by pixel.
use Rattle.std.specs.Prelude.{◌≡◌, ℕ, ℤ, pos, ◌+◌, ◌*◌, ◌<◌, ◌≤◌, ◌+ℤ◌, ◌≤ℤ◌, List, length, get_or}
use Rattle.raster_values.specs.Raster.{Pixels, IsRaster}
use Rattle.raster_values.specs.Flat.{value_in}
use Rattle.overview_tiles.specs.declared.layer.Frame.{Frame}
use Rattle.overview_tiles.specs.Sums.{Sums}
use Rattle.overview_tiles.specs.inside.Reach.{reach_of}
use Rattle.overview_tiles.specs.inside.Comes.{GrowsCounts, IsWithin, comes, mark_in, total_at}

-- the raster fits where it is laid
pub record IsPlaced (f : Frame) (r : Pixels) : Type 0 where
  pub raster : IsRaster r
  pub cols : f.cols ≡ r.cols
  pub depth : f.depth ≡ r.depth
  pub top : f.top ≤ r.rows
  pub left : f.left ≤ r.cols

-- counts stay bytes where the n pixels from number `from` on come to them
abbrev pub CountsFit : Frame → Pixels → ℕ → ℕ → List ℕ → Type 0
CountsFit f r from n counts = (t : ℕ) → t < length counts
    → (pos (get_or counts t 0)
    +ℤ comes (λ i. total_at f.cols f.top f.left (from + i)) (λ i. mark_in r (from + i)) t n)
    ≤ℤ pos 255

-- the sums of the first `places` pixels are at most so far from 0
abbrev pub AreWithin : ℕ → ℕ → ℕ → List ℤ → Type 0
AreWithin bound places depth sums = (t d : ℕ) → t < places → d < depth
    → IsWithin bound (get_or sums (t * depth + d) (pos 0))

-- the values of the n pixels from number `from` on have come to the sums of `places` pixels
abbrev pub LaysValues : Frame → Pixels → ℕ → ℕ → ℕ → List ℤ → List ℤ → Type 0
LaysValues f r from n places sums new_sums = (t d : ℕ) → t < places → d < f.depth
    → get_or new_sums (t * f.depth + d) (pos 0)
    ≡ get_or sums (t * f.depth + d) (pos 0)
    +ℤ comes (λ i. total_at f.cols f.top f.left (from + i)) (λ i. value_in r d (from + i)) t n

-- the valid ones among the n pixels from number `from` on have come to the counts
abbrev pub LaysMarks : Frame → Pixels → ℕ → ℕ → List ℕ → List ℕ → Type 0
LaysMarks f r from n counts new_counts =
    GrowsCounts (λ i. total_at f.cols f.top f.left (from + i)) (λ i. mark_in r (from + i)) n counts
    new_counts

-- the same of the values, as far as the depth d
pub record LaysDepths (f : Frame) (r : Pixels) (from n places d : ℕ) (old new : List ℤ) : Type 0
  where
    pub done : (t e : ℕ) → t < places → e < d
        → get_or new (t * f.depth + e) (pos 0)
        ≡ get_or old (t * f.depth + e) (pos 0)
        +ℤ comes (λ i. total_at f.cols f.top f.left (from + i)) (λ i. value_in r e (from + i)) t n
    pub rest : (t e : ℕ) → d ≤ e → e < f.depth
        → get_or new (t * f.depth + e) (pos 0) ≡ get_or old (t * f.depth + e) (pos 0)

-- what is asked for where a whole raster is laid into the numbers of a band
pub record CanLay (f : Frame) (r : Pixels) (s : Sums) : Type 0 where
  pub placed : IsPlaced f r
  pub counts : length s.counts ≡ r.rows * r.cols
  pub sums : length s.sums ≡ r.rows * r.cols * r.depth
  pub fits : CountsFit f r 0 (r.rows * r.cols) s.counts
  pub within : AreWithin (256 * reach_of r.kind) (r.rows * r.cols) f.depth s.sums

-- and what is left then: all pixels have come to the totals
pub record LaysAll (f : Frame) (r : Pixels) (old new : Sums) : Type 0 where
  pub counts : LaysMarks f r 0 (r.rows * r.cols) old.counts new.counts
  pub sums : LaysValues f r 0 (r.rows * r.cols) (r.rows * r.cols) old.sums new.sums
  pub count_size : length new.counts ≡ length old.counts
  pub sum_size : length new.sums ≡ length old.sums
