-- Pieces of a row of pixels: what is kept from pixel to pixel. `mark` says which pixels of a piece
-- are valid, `now` what values they have, `up` and `above` the same of the pixels above.
use Rattle.std.specs.Prelude.{ℕ, zero, suc, ◌≡◌, ◌⊎◌, ◌-◌, ◌+◌, ◌<◌, ◌≤◌, Bool, true, false, ℤ, pos}
use Rattle.std.specs.Prelude.{negsuc, ◌≤ℤ◌, ◌+ℤ◌, unsigned_abs, if◌then◌else◌, List, get_or}
use Rattle.std.specs.Int.{int_rem_euclid}
use Rattle.raster_cells.specs.declared.kind.PixelType.{PixelType}
use Rattle.delta_mode.specs.Deltas.{delta, last_value}

-- how many of the first n pixels are valid
abbrev pub rank : (ℕ → Bool) → ℕ → ℕ
rank mark zero = 0
rank mark (suc i) = if mark i then rank mark i + 1 else rank mark i

-- whether the pixel before is a valid one of this row
abbrev pub left_of : Bool → (ℕ → Bool) → ℕ → Bool
left_of left mark zero = left
left_of left mark (suc i) = mark i

-- the predictor, by what is kept
abbrev pub predicted_by : Bool → Bool → ℤ → ℤ → ℤ
predicted_by left up above last = if left then last else (if up then above else last)

-- the symbol of a number, by what is added to it
abbrev pub biased : ℤ → ℤ → ℕ
biased bias number = unsigned_abs (int_rem_euclid (number +ℤ bias) (pos 256))

-- a number that a byte may stand for
abbrev pub IsSmall : ℤ → Type 0
IsSmall number = (negsuc 127 ≤ℤ number) × (number ≤ℤ pos 255)

abbrev pub mark_at : List Bool → ℕ → Bool
mark_at marks i = get_or marks i false

abbrev pub value_of_place : List ℤ → ℕ → ℤ
value_of_place values i = get_or values i (pos 0)

-- what is known in front of pixel number k of a depth: whether the pixel before it is valid, the
-- value of the last valid one, and how many are valid
pub record IsAt (valid : ℕ → Bool) (value : ℕ → ℤ) (k : ℕ) (left : Bool) (last : ℤ) (count : ℕ) :
    Type 0 where
  pub left_is : 0 < k → left ≡ valid (k - 1)
  pub last_is : last ≡ last_value valid value k
  pub count_is : count ≡ rank valid k

-- the pixels from number `from` on and below `to` have the symbols that a list says
pub record AreCoded (kind : PixelType) (cols : ℕ) (valid : ℕ → Bool) (value : ℕ → ℤ) (from to : ℕ)
    (symbols : List ℕ) : Type 0 where
  pub each : (k : ℕ) → from ≤ k → k < to → valid k ≡ true
      → delta kind cols valid value k ≡ get_or symbols (rank valid k) 0

-- all pixels are looked at, or there is room for fewer than so many symbols more
abbrev pub IsFilled : ℕ → ℕ → ℕ → ℕ → ℕ → Type 0
IsFilled pixels place least filled room = (place ≡ pixels) ⊎ (room < filled + least)
