-- Amounts that come to totals: amount number i is added to the total with the number `to i`.
use Rattle.std.specs.Prelude.{◌≡◌, ◌≢◌, ℕ, ℤ, pos, zero, suc, ◌+◌, ◌*◌, ◌/◌, ◌%◌, ◌<◌, ◌+ℤ◌, ◌≤ℤ◌, Bool, true, false, List, length, get_or, nat_eq, is_some, None, if◌then◌else◌}
use Rattle.raster_values.specs.Raster.{Pixels}

-- what comes to the total t of the first n amounts
unfoldable pub comes : (ℕ → ℕ) → (ℕ → ℤ) → ℕ → ℕ → ℤ
comes to amount t zero = pos 0
comes to amount t (suc n) =
    comes to amount t n +ℤ (if nat_eq (to n) t then amount n else pos 0)

-- a mark as a number
abbrev pub one_of : Bool → ℤ
one_of true = pos 1
one_of false = pos 0

abbrev pub marks_amount : List Bool → ℕ → ℤ
marks_amount marks i = one_of (get_or marks i false)

-- one for each
abbrev pub ones : ℕ → ℤ
ones i = pos 1

-- the value at the depth d of pixel number i behind number `first`, of which each has `depth`
-- values
abbrev pub piece_amount : ℕ → ℕ → ℕ → List ℤ → ℕ → ℤ
piece_amount first depth d values i = get_or values ((first + i) * depth + d) (pos 0)

-- whether pixel number k is valid, as a number
abbrev pub mark_in : Pixels → ℕ → ℤ
mark_in r k = one_of (is_some (get_or r.pixels k None))

-- The totals of a row begin at `base`, and two neighbouring columns share one: that of the pixel
-- number i behind column `col`.
abbrev pub in_row : ℕ → ℕ → ℕ → ℕ
in_row base col i = base + (col + i) / 2

-- the total of pixel number k of a quarter whose first pixel is at (top, left) of the mosaic
abbrev pub total_at : ℕ → ℕ → ℕ → ℕ → ℕ
total_at cols top left k = (top + k / cols) / 2 * cols + (left + k % cols) / 2

-- at most so far from 0
abbrev pub IsWithin : ℕ → ℤ → Type 0
IsWithin bound z = (pos 0 ≤ℤ (z +ℤ pos bound)) × (z ≤ℤ pos bound)

-- each count has grown by the amounts that come to it
pub record GrowsCounts (to : ℕ → ℕ) (amount : ℕ → ℤ) (n : ℕ) (old new : List ℕ) : Type 0 where
  pub each : (t : ℕ) → t < length old
      → pos (get_or new t 0) ≡ pos (get_or old t 0) +ℤ comes to amount t n

-- each sum at the depth d has grown by the amounts that come to it, and those at other depths are
-- as they were
pub record GrowsSums (depth d : ℕ) (to : ℕ → ℕ) (amount : ℕ → ℤ) (n : ℕ) (old new : List ℤ) : Type 0
  where
    pub each : (t : ℕ) → t * depth + d < length old
        → get_or new (t * depth + d) (pos 0)
        ≡ get_or old (t * depth + d) (pos 0) +ℤ comes to amount t n
    pub rest : (t e : ℕ) → e < depth → e ≢ d
        → get_or new (t * depth + e) (pos 0) ≡ get_or old (t * depth + e) (pos 0)
