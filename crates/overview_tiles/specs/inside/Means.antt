-- The means of a band's numbers, and a raster that has them.
use Rattle.std.specs.Prelude.{◌≡◌, ◌⊎◌, ℕ, ℤ, pos, true, ◌+◌, ◌-◌, ◌*◌, ◌/◌, ◌%◌, ◌^◌, ◌<◌, ◌≤◌, ◌*ℤ◌, ◌≤ℤ◌, Bool, List, length, get_or, None, is_some, nat_eq, nat_lt, if◌then◌else◌}
use Rattle.raster_cells.specs.declared.kind.PixelType.{PixelType}
use Rattle.raster_cells.specs.PixelType.{type_least, type_greatest}
use Rattle.raster_values.specs.Raster.{Pixels, IsRaster, blank}
use Rattle.raster_values.specs.Places.{SameShape}
use Rattle.raster_values.specs.Block.{SameMask}
use Rattle.raster_values.specs.Flat.{value_in}
use Rattle.overview_tiles.specs.Half.{mean_of}
use Rattle.overview_tiles.specs.Sums.{Sums}

-- the mean at a depth of pixel number k, and 0 where none of its four is valid
abbrev pub mean_at : ℕ → List ℕ → List ℤ → ℕ → ℕ → ℤ
mean_at depth counts sums d k = if nat_lt 0 (get_or counts k 0)
    then mean_of (get_or sums (k * depth + d) (pos 0)) (pos (get_or counts k 0)) else pos 0

-- counts of at most four, and sums of so many values of the type
pub record HaveMeans (kind : PixelType) (places depth : ℕ) (counts : List ℕ)
    (sums : List ℤ) : Type 0
  where
    pub count_size : length counts ≡ places
    pub sum_size : length sums ≡ places * depth
    pub few : (k : ℕ) → get_or counts k 0 ≤ 4
    pub least : (k d : ℕ) → k < places → d < depth → 0 < get_or counts k 0
        → (pos (get_or counts k 0) *ℤ type_least kind) ≤ℤ get_or sums (k * depth + d) (pos 0)
    pub greatest : (k d : ℕ) → k < places → d < depth → 0 < get_or counts k 0
        → get_or sums (k * depth + d) (pos 0) ≤ℤ (pos (get_or counts k 0) *ℤ type_greatest kind)

-- bit number q of a byte, counted from the highest
abbrev pub byte_bit : ℕ → ℕ → Bool
byte_bit byte q = nat_eq (byte / 2 ^ (7 - q) % 2) 1

-- Pixels, of which none was valid, are valid where their count is not 0.
pub record Counted (counts : List ℕ) (old new : Pixels) : Type 0 where
  pub shape : SameShape old new
  pub marks : (k : ℕ) → k < length counts
      → is_some (get_or new.pixels k None) ≡ nat_lt 0 (get_or counts k 0)

-- The valid ones among the n pixels from number `from` on have the means. All else is as it was.
pub record Fills (counts : List ℕ) (sums : List ℤ) (from n : ℕ) (old new : Pixels) : Type 0 where
  pub same : SameMask old new
  pub put : (k d : ℕ) → from ≤ k → k < from + n → d < old.depth
      → is_some (get_or old.pixels k None) ≡ true
      → value_in new d k ≡ mean_at old.depth counts sums d k
  pub rest : (k d : ℕ) → k < old.rows * old.cols → d < old.depth → (k < from) ⊎ (from + n ≤ k)
      → value_in new d k ≡ value_in old d k

-- the same, as far as the depth d
pub record FillsDepths (counts : List ℕ) (sums : List ℤ) (from n d : ℕ) (old new : Pixels) : Type 0
  where
    pub same : SameMask old new
    pub put : (k e : ℕ) → from ≤ k → k < from + n → e < d
        → is_some (get_or old.pixels k None) ≡ true
        → value_in new e k ≡ mean_at old.depth counts sums e k
    pub rest : (k e : ℕ) → k < old.rows * old.cols → e < old.depth → (k < from) ⊎ (from + n ≤ k)
        → value_in new e k ≡ value_in old e k

-- the raster of this type and shape that has the means of the numbers
pub record HasMeans (kind : PixelType) (rows cols depth : ℕ) (s : Sums) (r : Pixels) : Type 0 where
  pub raster : IsRaster r
  pub shape : SameShape (blank kind rows cols depth) r
  pub marks : (k : ℕ) → k < rows * cols
      → is_some (get_or r.pixels k None) ≡ nat_lt 0 (get_or s.counts k 0)
  pub values : (k d : ℕ) → k < rows * cols → d < depth → is_some (get_or r.pixels k None) ≡ true
      → value_in r d k ≡ mean_of (get_or s.sums (k * depth + d) (pos 0)) (pos (get_or s.counts k 0))
