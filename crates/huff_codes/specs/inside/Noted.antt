-- What bytes tell, as the symbols are noted one by one.
use Rattle.std.specs.Prelude.{ℕ, ◌≡◌, ◌<◌, ◌⊎◌, Bool, List, get_or}
use Rattle.huff_codes.specs.Bits.{bits_of, BeginsWith}
use Rattle.huff_codes.specs.Codes.{HasCode, code_at}
use Rattle.huff_codes.specs.Prefixes.{IsLook}
use Rattle.huff_codes.specs.declared.words.prefixes.Look.{Look}
use Rattle.huff_codes.specs.declared.words.prefixes.Look.TheVariants.{Nothing}

-- the code of the symbol stands in front of the byte's bits, or begins with them
pub record Tells (codes : List (List Bool)) (byte s : ℕ) : Type 0 where
  pub coded : HasCode codes s
  pub meets : BeginsWith (bits_of 8 byte) (code_at codes s)
      ⊎ BeginsWith (code_at codes s) (bits_of 8 byte)

-- where the symbol tells of the byte, that is noted, and else what was there before stands
abbrev pub IsNoted : List (List Bool) → ℕ → ℕ → Look → Look → Type 0
IsNoted codes s byte old new =
    (Tells codes byte s × IsLook codes byte new) ⊎ ((Tells codes byte s → ⊥) × (new ≡ old))

-- what the symbols below s tell of the byte: all that is to tell, or nothing
abbrev pub IsNotedBelow : List (List Bool) → ℕ → ℕ → Look → Type 0
IsNotedBelow codes s byte look =
    IsLook codes byte look
    ⊎ ((look ≡ Nothing) × ((t : ℕ) → t < s → Tells codes byte t → ⊥))

abbrev pub AreNotedBelow : List (List Bool) → ℕ → List Look → Type 0
AreNotedBelow codes s looks =
    (byte : ℕ) → byte < 256 → IsNotedBelow codes s byte (get_or looks byte Nothing)
