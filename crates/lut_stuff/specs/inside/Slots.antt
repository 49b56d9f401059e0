-- A slot for each number, by which the different values of a list are gathered.
use Rattle.std.specs.Prelude.{ℕ, ◌≡◌, ◌*◌, ◌/◌, ◌%◌, ◌^◌, ◌<◌, List, length, get_or, IsTrue, false}
use Rattle.lut_stuff.specs.Tables.{distinct_above_0, index_in, occurs}

-- the slot of a number: of the 32 lowest bits of its product with an odd number, the highest 8
unfoldable pub slot_of : ℕ → ℕ
slot_of v = v * 2654435761 % 2 ^ 32 / 2 ^ 24

-- the list has each of the values above 0 once, and nothing else
pub record AreDistinct (values found : List ℕ) : Type 0 where
  pub count : length found ≡ distinct_above_0 values
  pub zero : occurs found 0 ≡ false
  pub others : (v : ℕ) → 0 < v → occurs found v ≡ occurs values v

-- each slot is 0 or has one of the values, and the slot of each value above 0 is not 0
pub record AreSlots (values slots : List ℕ) : Type 0 where
  pub known : (k : ℕ) → 0 < get_or slots k 0 → IsTrue (occurs values (get_or slots k 0))
  pub taken : (v : ℕ) → 0 < v → IsTrue (occurs values v) → 0 < get_or slots (slot_of v) 0

-- beside each slot stands the place in the table of the number in it
abbrev pub ArePlaces : List ℕ → List ℕ → List ℕ → Type 0
ArePlaces entries slots places =
    (k : ℕ) → k < length slots → get_or places k 0 ≡ index_in entries (get_or slots k 0)
