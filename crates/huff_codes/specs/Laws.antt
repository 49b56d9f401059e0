-- The laws of code lengths and canonical codes in the words of the format.
use Rattle.std.specs.Prelude.{Bool, ℕ, ◌≡◌, ◌+◌, ◌-◌, ◌*◌, ◌/◌, ◌^◌, ◌<◌, true, false, List, []}
use Rattle.std.specs.Prelude.{◌∷◌, ◌≤◌, ◌↔◌, All, slice_index}
use Rattle.huff_codes.specs.Tree.{Tree, is_before, used_below, after_joins, lengths_of, used_count}
use Rattle.huff_codes.specs.Bits.{bits_of}
use Rattle.huff_codes.specs.Codes.{AreLengths, is_earlier, start_of, canonical_code, canonical_codes}
use Rattle.huff_codes.specs.Table.{IsTable}
use Rattle.first_fault.specs.Parts.{AreBytes}
use Rattle.huff_codes.specs.Written.{AreWritten, IsWrittenTable}

-- no later tree comes before an earlier one, so the first two are the least of all
abbrev pub StandInOrder : List ℕ → List Tree → Type 0
StandInOrder counts [] = Unit
StandInOrder counts (t ∷ ts) = All (λ u. is_before counts u t ≡ false) ts × StandInOrder counts ts

-- the trees stand so at first, and after any number of joins
abbrev pub JoinsTakeTheLeast : Type 0
JoinsTakeTheLeast = (counts : List ℕ) (n : ℕ)
    → StandInOrder counts (after_joins counts n (used_below counts 256))

-- the number whose bits, as many as its length says, are the code of a symbol
unfoldable pub code_number : List ℕ → ℕ → ℕ
code_number lengths s = start_of lengths s / 2 ^ (32 - slice_index lengths s)

-- the code of b comes right behind that of a, in the order of (length, symbol)
pub record ComesNext (lengths : List ℕ) (a b : ℕ) : Type 0 where
  pub later : is_earlier lengths a b ≡ true
  pub none_between : (t : ℕ) → is_earlier lengths a t ≡ true → is_earlier lengths t b ≡ true → ⊥

-- The canonical codes count up: each is the bits of its number, the first number is 0, and the next
-- one is the one before plus 1, with zeros appended up to its length.
pub record CountUp (lengths : List ℕ) : Type 0 where
  pub bits : (s : ℕ) → s < 256 → canonical_code lengths s
      ≡ bits_of (slice_index lengths s) (code_number lengths s)
  pub first : (s : ℕ) → ((t : ℕ) → is_earlier lengths t s ≡ true → ⊥) → code_number lengths s ≡ 0
  pub next : (a b : ℕ) → a < 256 → b < 256 → ComesNext lengths a b
      → code_number lengths b
      ≡ (code_number lengths a + 1) * 2 ^ (slice_index lengths b - slice_index lengths a)

abbrev pub CanonicalCodesCountUp : Type 0
CanonicalCodesCountUp = (lengths : List ℕ) → AreLengths lengths → CountUp lengths

-- what is written of lengths is a table of their canonical codes
abbrev pub WrittenTablesAreTables : Type 0
WrittenTablesAreTables = (lengths bytes : List ℕ) → AreLengths lengths
    → IsWrittenTable lengths bytes
    → IsTable bytes (canonical_codes lengths)

-- where two symbols or more are used, those that are counted have lengths, and no others
abbrev pub CountedHaveLengths : Type 0
CountedHaveLengths = (counts : List ℕ) (s : ℕ) → 2 ≤ used_count counts → s < 256
    → (0 < slice_index counts s) ↔ (0 < slice_index (lengths_of counts) s)

-- bytes that are written of symbols, or of lengths, are the only ones
abbrev pub WrittenWordsAreOnce : Type 0
WrittenWordsAreOnce = (codes : List (List Bool)) (symbols a b : List ℕ) → AreBytes a → AreBytes b
    → AreWritten codes symbols a → AreWritten codes symbols b → a ≡ b

abbrev pub WrittenTablesAreOnce : Type 0
WrittenTablesAreOnce = (lengths a b : List ℕ) → AreBytes a → AreBytes b → IsWrittenTable lengths a
    → IsWrittenTable lengths b → a ≡ b
