-- The list in the table form that is written for given values.
use Rattle.std.specs.Prelude.{ℕ, ◌≡◌, ◌+◌, ◌^◌, ◌<◌, ◌≤◌, Bool, ◌&&◌, nat_eq, nat_le, nat_lt, true}
use Rattle.std.specs.Prelude.{List, ◌∷◌, ◌++◌, All, drop, length, map}
use Rattle.std.specs.Prelude.{Option, None, Some, if◌then◌else◌}
use Rattle.std.specs.List.{filter, list_any, range_with_len}
use Rattle.bit_stuff.specs.Head.{list_head_bytes}
use Rattle.bit_stuff.specs.Simple.{binary_digits, greatest_number, width_of}
use Rattle.bit_stuff.specs.Stuffed.{stuffed_bytes}

-- whether the number is one of the values
abbrev pub occurs : List ℕ → ℕ → Bool
occurs values v = list_any (nat_eq v) values

-- the different values above 0, in rising order: of the numbers from 1 to the greatest value, those
-- that are values
unfoldable pub entries_of : List ℕ → List ℕ
entries_of values = filter (occurs values) (range_with_len 1 (greatest_number values))

unfoldable pub distinct_above_0 : List ℕ → ℕ
distinct_above_0 values = length (entries_of values)

-- the place of a value in the table behind its entry 0: how many entries are at most the value
abbrev pub index_in : List ℕ → ℕ → ℕ
index_in entries v = length (filter (λ e. nat_le e v) entries)

-- the bytes that are chosen for a list in the table form
unfoldable pub table_bytes : List ℕ → List ℕ
table_bytes values =
    list_head_bytes (width_of values) true (length values)
    ++ (distinct_above_0 values + 1)
    ∷ (stuffed_bytes (width_of values) (entries_of values)
    ++ stuffed_bytes (binary_digits (distinct_above_0 values))
    (map (index_in (entries_of values)) values))

-- whether the values have a list in the table form: some value is above 0, and at most 254
-- different ones are
abbrev pub has_table : List ℕ → Bool
has_table values = nat_lt 0 (distinct_above_0 values) && nat_le (distinct_above_0 values) 254

-- the length of the chosen list in the table form, where there is one
abbrev pub table_size : List ℕ → Option ℕ
table_size values = if has_table values then Some (length (table_bytes values)) else None

-- at most 1,024 values, each below 2^31
pub record AreTableValues (values : List ℕ) : Type 0 where
  pub few : length values ≤ 1024
  pub below : All (λ v. v < 2 ^ 31) values

-- such values have a list in the table form, and there is room for it
pub record TableFits (values room : List ℕ) : Type 0 where
  pub values_are : AreTableValues values
  pub table : table_size values ≡ Some (length (table_bytes values))
  pub room_is : length (table_bytes values) ≤ length room

-- the list stands over the front of what was there, and so many bytes are its
pub record WritesTable (values old new : List ℕ) (used : ℕ) : Type 0 where
  pub count : used ≡ length (table_bytes values)
  pub bytes : new ≡ table_bytes values ++ drop used old
