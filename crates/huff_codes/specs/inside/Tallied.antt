-- Symbols as they are counted.
use Rattle.std.specs.Prelude.{ℕ, ◌≡◌, ◌+◌, ◌^◌, ◌<◌, nat_eq, List, length, get_or, map, sum}
use Rattle.std.specs.List.{count_by, range_with_len}

-- to each count is added how often its symbol stands in a list
pub record AreAdded (symbols old new : List ℕ) : Type 0 where
  pub room : length new ≡ 256
  pub each : (s : ℕ) → s < 256 → get_or new s 0 ≡ get_or old s 0 + count_by (nat_eq s) symbols
  pub total : sum new ≡ sum old + length symbols

-- counts of 256 symbols, to which so many more can be added
pub record HasRoom (counts : List ℕ) (more : ℕ) : Type 0 where
  pub room : length counts ≡ 256
  pub few : sum counts + more < 2 ^ 32

-- the sums of four counts of each symbol
unfoldable pub sums_of : List ℕ → List ℕ → List ℕ → List ℕ → List ℕ
sums_of a b c d =
    map (λ s. get_or a s 0 + get_or b s 0 + get_or c s 0 + get_or d s 0) (range_with_len 0 256)

-- four counts of each of 256 symbols, whose sum a number of 32 bits holds
pub record AreTables (a b c d : List ℕ) : Type 0 where
  pub one : length a ≡ 256
  pub two : length b ≡ 256
  pub three : length c ≡ 256
  pub four : length d ≡ 256
  pub few : sum (sums_of a b c d) < 2 ^ 32
