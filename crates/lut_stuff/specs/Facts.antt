-- What always holds of names and of ranks, over their fields.
use Rattle.std.specs.Prelude.{◌≡◌, ◌≢◌, ℕ, ◌<◌, ◌≤◌, List, get_or, length, take}

-- each number is above those before it
abbrev pub Rises : List ℕ → Type 0
Rises table = (i j : ℕ) → i < j → j < length table → get_or table i 0 < get_or table j 0

-- at most 256 values have a name, the first `count`, and no two of them are one
pub record AreNames (count : ℕ) (values : List ℕ) : Type 0 where
  pub few : count ≤ 256
  pub different : (i j : ℕ) → i < j → j < count → get_or values i 0 ≢ get_or values j 0

-- at most 256 values have a rank, the first `count` of the table, and they rise
pub record AreRanked (count : ℕ) (table : List ℕ) : Type 0 where
  pub few : count ≤ 256
  pub size : length table ≡ 256
  pub rises : Rises (take count table)
