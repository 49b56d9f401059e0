-- Values by their ranks: by smaller numbers that rise with them.
use Rattle.std.specs.Prelude.{◌≡◌, ◌↔◌, ℕ, ◌+◌, ◌-◌, ◌<◌, All, List, ◌∷◌, ◌++◌, drop, length, get_or, map, take, true}
use Rattle.bit_stuff.specs.Head.{list_head_bytes}
use Rattle.bit_stuff.specs.Simple.{binary_digits}
use Rattle.bit_stuff.specs.Stuffed.{stuffed_bytes}
use Rattle.lut_stuff.specs.Facts.{Rises}
use Rattle.lut_stuff.specs.declared.ranking.Ranks.{Ranks}

-- the table has each of the values at its rank, and they rise with their ranks
pub record AreRanks (table values ranks : List ℕ) : Type 0 where
  pub rises : Rises table
  pub within : All (λ r. r < length table) ranks
  pub named : map (λ r. get_or table r 0) ranks ≡ values

-- equal values have equal ranks, and the greater value has the greater one
pub record RanksTell (values ranks : List ℕ) : Type 0 where
  pub count : length ranks ≡ length values
  pub equal : (i j : ℕ) → i < length values → j < length values
      → (get_or values i 0 ≡ get_or values j 0) ↔ (get_or ranks i 0 ≡ get_or ranks j 0)
  pub less : (i j : ℕ) → i < length values → j < length values
      → (get_or values i 0 < get_or values j 0) ↔ (get_or ranks i 0 < get_or ranks j 0)

abbrev pub RanksRise : Type 0
RanksRise = (table values ranks : List ℕ) → AreRanks table values ranks → RanksTell values ranks

-- how far the value of a rank is above the first value
abbrev pub above_first : List ℕ → ℕ → ℕ
above_first table r = get_or table r 0 - get_or table 0 0

-- the values of ranks, as how far they are above the first value
abbrev pub ranked_above : List ℕ → List ℕ → List ℕ
ranked_above table ranks = map (above_first table) ranks

-- how far values are above one of them
abbrev pub above_value : ℕ → List ℕ → List ℕ
above_value least values = map (λ v. v - least) values

-- ---- the values that have a rank

abbrev pub ranked_values : Ranks → List ℕ
ranked_values r = take r.count r.table

-- they stay
pub record KeepsTable (old new : Ranks) : Type 0 where
  pub count : new.count ≡ old.count
  pub table : new.table ≡ old.table

-- the least value has this rank, and the table from there on has each of the values by how many
-- ranks it is above that
pub record AreRanksFrom (table : List ℕ) (low least : ℕ) (values ranks : List ℕ) : Type 0 where
  pub there : low < length table
  pub first : get_or table low 0 ≡ least
  pub ranks_are : AreRanks (drop low table) values ranks

-- the list in the table form with this width, these entries and these indexes
unfoldable pub known_bytes : ℕ → List ℕ → List ℕ → List ℕ
known_bytes width entries indexes =
    list_head_bytes width true (length indexes)
    ++ (length entries + 1)
    ∷ (stuffed_bytes width entries ++ stuffed_bytes (binary_digits (length entries)) indexes)
