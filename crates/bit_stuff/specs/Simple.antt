-- Lists in the simple form: a head, and the numbers stuffed.
use Rattle.std.specs.Prelude.{ℕ, ◌≡◌, List, [], ◌∷◌, ◌++◌, length, drop, max, false}
use Rattle.std.specs.Int.Digits.{digits_of}
use Rattle.bit_stuff.specs.declared.heads.ListHead.{ListHead}
use Rattle.bit_stuff.specs.Stuffed.{IsStuffed, stuffed_bytes}
use Rattle.bit_stuff.specs.Head.{IsListHead, list_head_bytes}

-- the bytes are this head, which is in the simple form and counts the values, and the values
-- stuffed
pub record IsSimpleUnder (bytes values : List ℕ) (head : ListHead) (used : ℕ) : Type 0 where
  pub is_head : IsListHead bytes head used
  pub simple : head.table ≡ false
  pub count : head.count ≡ length values
  pub stuffed : IsStuffed (drop used bytes) head.width values

-- the bytes are a list of the values in the simple form
abbrev pub IsSimpleList : List ℕ → List ℕ → Type 0
IsSimpleList bytes values = (head : ListHead) × ((used : ℕ) × IsSimpleUnder bytes values head used)

-- how many digits a number has in base two; 0 has none
unfoldable pub binary_digits : ℕ → ℕ
binary_digits n = length (digits_of 2 n)

-- the greatest value, or 0 where there is none
abbrev pub greatest_number : List ℕ → ℕ
greatest_number [] = 0
greatest_number (v ∷ values) = max v (greatest_number values)

-- the chosen width: as many bits as the greatest value has binary digits
abbrev pub width_of : List ℕ → ℕ
width_of values = binary_digits (greatest_number values)

-- the bytes that are chosen for a list in the simple form
unfoldable pub simple_bytes : List ℕ → List ℕ
simple_bytes values =
    list_head_bytes (width_of values) false (length values)
    ++ stuffed_bytes (width_of values) values
