-- What the steps of reading a table leave.
use Rattle.std.specs.Prelude.{ℕ, ◌≡◌, ◌<◌, ◌≤◌, List, ◌∷◌, length, get_or, map, take, All, IsTrue, false}
use Rattle.bit_stuff.specs.declared.heads.ListHead.{ListHead}
use Rattle.bit_stuff.specs.Simple.{binary_digits}
use Rattle.bit_stuff.specs.Stuffed.{IsStuffed}
use Rattle.lut_stuff.specs.Lists.{IsTabled}

-- each index has an entry, and the values are these entries
pub record AreLookedUp (table indexes values : List ℕ) : Type 0 where
  pub within : All (λ i. i < length table) indexes
  pub named : values ≡ map (λ i. get_or table i 0) indexes

-- the first bytes are indexes into the table, in as many bits as `most` has digits, which name the
-- values
pub record HasIndexes (table : List ℕ) (most : ℕ) (bytes : List ℕ) (used : ℕ)
    (values : List ℕ) : Type 0 where
  pub room : used ≤ length bytes
  pub indexes : List ℕ
  pub stuffed : IsStuffed (take used bytes) (binary_digits most) indexes
  pub looked_up : AreLookedUp table indexes values

-- the first bytes are the entries of the table behind its entry 0, which is 0
pub record HasEntries (width : ℕ) (bytes : List ℕ) (used : ℕ) (table : List ℕ) : Type 0 where
  pub room : used ≤ length bytes
  pub entries : List ℕ
  pub first : table ≡ 0 ∷ entries
  pub stuffed : IsStuffed (take used bytes) width entries

-- what stands behind a head: the numbers, or a table and indexes
pub data IsBody (head : ListHead) (back values : List ℕ) : Type 0 where
  plain : head.table ≡ false → IsStuffed back head.width values → IsBody head back values
  tabled : IsTrue head.table → IsTabled head.width back values → IsBody head back values
