-- The symbols of a raster. Its pixels are numbered row by row; `valid` says which are valid, and
-- `value` what value each has at a depth.
use Rattle.std.specs.Prelude.{ℕ, zero, suc, ◌≡◌, ◌-◌, ◌*◌, ◌%◌, ◌<◌, Bool, ◌&&◌, nat_lt, nat_le}
use Rattle.std.specs.Prelude.{List, map, get_or, None, is_some, ℤ, pos, ◌-ℤ◌}
use Rattle.std.specs.Prelude.{if◌then◌else◌}
use Rattle.std.specs.List.{filter, range_with_len}
use Rattle.raster_cells.specs.declared.kind.PixelType.{PixelType}
use Rattle.raster_values.specs.Raster.{Pixels, values_of}
use Rattle.raster_values.specs.Block.{SameMask}
use Rattle.raster_values.specs.Flat.{value_in}
use Rattle.delta_mode.specs.Symbols.{symbol_of}

-- whether there is a valid pixel to the left of pixel number k
abbrev pub has_left : ℕ → (ℕ → Bool) → ℕ → Bool
has_left cols valid k = nat_lt 0 (k % cols) && valid (k - 1)

-- whether there is a valid pixel above
abbrev pub has_upper : ℕ → (ℕ → Bool) → ℕ → Bool
has_upper cols valid k = nat_le cols k && valid (k - cols)

-- the value of the last valid pixel before pixel number k, in order; 0 where there is none
unfoldable pub last_value : (ℕ → Bool) → (ℕ → ℤ) → ℕ → ℤ
last_value valid value zero = pos 0
last_value valid value (suc k) = if valid k then value k else last_value valid value k

-- the value of the left neighbour where that is valid, else of the upper one where that is valid,
-- else of the last valid pixel before
unfoldable pub predictor : ℕ → (ℕ → Bool) → (ℕ → ℤ) → ℕ → ℤ
predictor cols valid value k =
    if has_left cols valid k then value (k - 1)
    else (if has_upper cols valid k then value (k - cols) else last_value valid value k)

-- the symbol of a pixel: that of its value less its predictor
abbrev pub delta : PixelType → ℕ → (ℕ → Bool) → (ℕ → ℤ) → ℕ → ℕ
delta kind cols valid value k = symbol_of kind (value k -ℤ predictor cols valid value k)

-- the symbols of n pixels from number k on, those of the valid ones in order
unfoldable pub deltas_from : PixelType → ℕ → (ℕ → Bool) → (ℕ → ℤ) → ℕ → ℕ → List ℕ
deltas_from kind cols valid value k n =
    map (delta kind cols valid value) (filter valid (range_with_len k n))

abbrev pub is_valid : Pixels → ℕ → Bool
is_valid r k = is_some (get_or r.pixels k None)

-- the symbols of a depth
abbrev pub deltas : Pixels → ℕ → List ℕ
deltas r d = deltas_from r.kind r.cols (is_valid r) (value_in r d) 0 (r.rows * r.cols)

abbrev pub AreDeltas : Pixels → ℕ → List ℕ → Type 0
AreDeltas r d symbols = symbols ≡ deltas r d

-- the symbols of all values, pixel by pixel and depth innermost
abbrev pub plain : Pixels → List ℕ
plain r = map (symbol_of r.kind) (values_of r.pixels)

abbrev pub ArePlain : Pixels → List ℕ → Type 0
ArePlain r symbols = symbols ≡ plain r

-- The valid pixels have the values at a depth that the symbols say. All else is as it was: type,
-- shape, mask, and every value at another depth.
pub record TakesDeltas (old new : Pixels) (d : ℕ) (symbols : List ℕ) : Type 0 where
  pub same : SameMask old new
  pub taken : AreDeltas new d symbols
  pub rest : (k e : ℕ) → k < old.rows * old.cols → e < old.depth → (e ≡ d → ⊥)
      → value_in new e k ≡ value_in old e k

-- The valid pixels have the values that the symbols say; type, shape and mask are as they were.
pub record TakesPlain (old new : Pixels) (symbols : List ℕ) : Type 0 where
  pub same : SameMask old new
  pub taken : ArePlain new symbols
