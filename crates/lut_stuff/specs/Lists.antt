-- Which bytes are a list of given numbers, in either form.
use Rattle.std.specs.Prelude.{ℕ, ◌≡◌, ◌+◌, ◌<◌, List, ◌∷◌, ◌++◌, length, get_or, map}
use Rattle.std.specs.Prelude.{All, IsTrue}
use Rattle.bit_stuff.specs.declared.heads.ListHead.{ListHead}
use Rattle.bit_stuff.specs.Head.{IsListHeadOf}
use Rattle.bit_stuff.specs.Simple.{IsSimpleList, binary_digits}
use Rattle.bit_stuff.specs.Stuffed.{IsStuffed}

-- the entry at an index, where entry 0 is 0 and the others follow
abbrev pub entry_at : List ℕ → ℕ → ℕ
entry_at entries i = get_or (0 ∷ entries) i 0

-- The bytes are a table and indexes into it: a byte that counts the entries, entry 0 with them; the
-- entries but entry 0, in `width` bits each; and an index for each value, in as many bits as the
-- greatest index has digits. Entry 0 is 0, and has no bytes.
pub record IsTabled (width : ℕ) (bytes values : List ℕ) : Type 0 where
  pub entries : List ℕ
  pub indexes : List ℕ
  pub entry_bytes : List ℕ
  pub index_bytes : List ℕ
  pub joined : bytes ≡ (length entries + 1) ∷ (entry_bytes ++ index_bytes)
  pub some : 0 < length entries
  pub stuffed_entries : IsStuffed entry_bytes width entries
  pub stuffed_indexes : IsStuffed index_bytes (binary_digits (length entries)) indexes
  pub within : All (λ i. i < length entries + 1) indexes
  pub named : values ≡ map (entry_at entries) indexes

-- the bytes are a list of the values
pub data IsList (bytes values : List ℕ) : Type 0 where
  simple : IsSimpleList bytes values → IsList bytes values
  table : (head : ListHead) (front back : List ℕ) → bytes ≡ front ++ back
      → IsListHeadOf (length values) front head → IsTrue head.table
      → IsTabled head.width back values
      → IsList bytes values

-- the bytes are a list of n values
abbrev pub IsListOf : ℕ → List ℕ → List ℕ → Type 0
IsListOf n bytes values = (length values ≡ n) × IsList bytes values
