-- The symbols of a piece of a row by distances: how far each value is above the type's least.
use Rattle.std.specs.Prelude.{ℕ, ◌≡◌, ◌+◌, ◌-◌, ◌%◌, ◌^◌, ◌<◌, ◌≤◌, Bool, true, false, List, get_or}
use Rattle.raster_values.specs.Raster.{Pixels}
use Rattle.raster_cells.specs.Distance.{distance_of}
use Rattle.raster_values.specs.Flat.{value_in}
use Rattle.raster_cells.specs.Words.{word_bit}
use Rattle.delta_mode.specs.Deltas.{delta, has_left, is_valid, last_value}
use Rattle.delta_mode.specs.inside.Pieces.{rank}

-- the symbol of a value less another one
abbrev pub between : ℕ → ℕ → ℕ → ℕ
between bias here before = (here + (256 + bias) - before) % 256

-- whether a pixel of a piece is valid
abbrev pub mark_of : Pixels → ℕ → ℕ → Bool
mark_of r place i = is_valid r (place + i)

-- behind as many distances as there are valid pixels before a pixel of the piece stands that of the
-- last value before it
pub record HasLast (r : Pixels) (d place n : ℕ) (distances : List ℕ) : Type 0 where
  pub each : (i : ℕ) → i ≤ n → get_or distances (rank (mark_of r place) i) 0
      ≡ distance_of r.kind (last_value (is_valid r) (value_in r d) (place + i))

-- the bits are of valid pixels that have no valid one to the left
pub record AreStarts (r : Pixels) (place n word : ℕ) : Type 0 where
  pub below : word < 2 ^ n
  pub each : (i : ℕ) → i < n → word_bit n word i ≡ true → (mark_of r place i ≡ true)
      × (has_left r.cols (is_valid r) (place + i) ≡ false)

-- the valid pixels of a piece have their symbols, but those of these bits
pub record HasSymbols (r : Pixels) (d place n word : ℕ) (symbols : List ℕ) : Type 0 where
  pub each : (i : ℕ) → i < n → mark_of r place i ≡ true → word_bit n word i ≡ false
      → get_or symbols (rank (mark_of r place) i) 0
      ≡ delta r.kind r.cols (is_valid r) (value_in r d) (place + i)
