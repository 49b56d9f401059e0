-- Reading one symbol after the other.
use Rattle.std.specs.Prelude.{ℕ, ◌≡◌, ◌*◌, ◌/◌, Bool, List, ◌++◌, length, drop, All}
use Rattle.huff_codes.specs.Bits.{word_bits, BeginsWith}
use Rattle.huff_codes.specs.Codes.{code_at, HasCode}
use Rattle.first_fault.specs.Faults.{choice, wrong}
use Rattle.huff_codes.specs.Words.{joined_codes, whole_end, IsBegun}
use Rattle.huff_codes.specs.declared.faults.CodeReason.TheVariants.{Cut, NoCode}
use Rattle.huff_codes.specs.declared.faults.CodeFault.{CodeFault}

-- the code of the symbol stands in front of these bits, and has this length
pub record IsNext (codes : List (List Bool)) (left : List Bool) (symbol size : ℕ) : Type 0 where
  pub coded : HasCode codes symbol
  pub front : BeginsWith left (code_at codes symbol)
  pub takes : size ≡ length (code_at codes symbol)

-- the codes of these symbols stand in front, and take so many bits
pub record HaveReached (codes : List (List Bool)) (bytes : List ℕ) (symbols : List ℕ) (bit : ℕ) :
    Type 0 where
  pub coded : All (HasCode codes) symbols
  pub takes : bit ≡ length (joined_codes codes symbols)
  pub bits : word_bits bytes ≡ joined_codes codes symbols ++ drop bit (word_bits bytes)

-- the fault of bits that no code stands in front of, behind so many bits
abbrev pub IsStop : List (List Bool) → List ℕ → ℕ → List Bool → CodeFault → Type 0
IsStop codes bytes bit left f =
    choice (IsBegun codes left) (wrong Cut (whole_end bytes)) (wrong NoCode (4 * (bit / 32)))
    f.at f.reason
