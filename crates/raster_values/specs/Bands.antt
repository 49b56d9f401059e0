-- Bands: up to 16 rasters of one type and one shape, with a limit on all their values together.
use Rattle.std.specs.Prelude.{[], ◌+◌, ◌*◌, ◌≤◌, List, ◌∷◌, length, All, ◌<◌}
use Rattle.raster_values.specs.Raster.{Pixels, IsRaster}
use Rattle.raster_values.specs.Places.{SameShape}

-- s has the type and the shape of r
abbrev pub IsLike : Pixels → Pixels → Type 0
IsLike r s = SameShape s r

-- all are like the first, and have at most 2 ^ 24 values together
abbrev pub AreLike : List Pixels → Type 0
AreLike [] = Unit {0}
AreLike (r ∷ more) = All (IsLike r) more
    × ((1 + length more) * (r.rows * r.cols * r.depth) ≤ 16777216)

-- at most 16 rasters that may be bands of one tile
pub record MayBeBands (bands : List Pixels) : Type 0 where
  pub few : length bands ≤ 16
  pub sound : All IsRaster bands
  pub like : AreLike bands

-- and at least one
abbrev pub AreBands : List Pixels → Type 0
AreBands bands = (0 < length bands) × MayBeBands bands
