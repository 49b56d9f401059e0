-- The numbers of one band, and the type of its values.
use Rattle.std.specs.Prelude.{ℕ, List, map}
use Rattle.raster_cells.specs.declared.kind.PixelType.{PixelType}
use Rattle.overview_tiles.specs.Sums.{Sums, zero_sums}

pub record Numbers : Type 0 where
  pub kind : PixelType
  pub sums : Sums

-- the numbers of so many pixels of so many depths, of which none is valid
abbrev pub zero_numbers : PixelType → ℕ → ℕ → Numbers
zero_numbers kind places depth = record { kind = kind; sums = zero_sums places depth }

-- of several bands
abbrev pub sums_of : List Numbers → List Sums
sums_of bands = map (λ (n : Numbers). n.sums) bands

abbrev pub kinds_of : List Numbers → List PixelType
kinds_of bands = map (λ (n : Numbers). n.kind) bands
