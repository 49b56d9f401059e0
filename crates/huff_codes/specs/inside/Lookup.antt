-- A table of symbols by the first eleven bits: an entry has the symbols whose codes stand in front.
use Rattle.std.specs.Prelude.{ℕ, ◌≡◌, ◌*◌, ◌<◌, ◌≤◌, Bool, List, [], ◌∷◌, length, take, get_or, All}
use Rattle.huff_codes.specs.Bits.{bits_of, BeginsWith}
use Rattle.huff_codes.specs.Codes.{HasCode}
use Rattle.huff_codes.specs.Words.{joined_codes}
use Rattle.huff_codes.specs.declared.words.lookup.Entry.{Entry}

-- the entry of bits that no code of at most eleven bits stands in front of
abbrev pub no_entry : Entry
no_entry = record { first = 0; second = 0; count = 0; length = 0 }

abbrev pub symbols_of : Entry → List ℕ
symbols_of e = take e.count (e.first ∷ (e.second ∷ []))

-- what holds of an entry by itself: a code has at most 32 bits
pub record IsShort (e : Entry) : Type 0 where
  pub few : e.count ≤ 2
  pub low : e.length ≤ 11
  pub each : e.length ≤ 32 * e.count

-- the codes of the entry's symbols stand in front of the eleven bits of this number
pub record IsEntry (codes : List (List Bool)) (number : ℕ) (e : Entry) : Type 0 where
  pub coded : All (HasCode codes) (symbols_of e)
  pub stand : BeginsWith (bits_of 11 number) (joined_codes codes (symbols_of e))
  pub takes : e.length ≡ length (joined_codes codes (symbols_of e))

abbrev pub AreEntries : List (List Bool) → List Entry → Type 0
AreEntries codes entries =
    (k : ℕ) → k < length entries → IsEntry codes k (get_or entries k no_entry)

-- the first n of these bits stand highest in 64
pub record IsSeen (n word : ℕ) (left : List Bool) : Type 0 where
  pub low : n ≤ 64
  pub same : take n left ≡ take n (bits_of 64 word)
