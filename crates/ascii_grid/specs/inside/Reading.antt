-- A text that is read through a buffer, as the tokens that are still to come.
use Rattle.std.specs.Prelude.{◌≡◌, ℕ, suc, ◌+◌, ◌<◌, ◌≤◌, Bool, true, false, if◌then◌else◌, List, [], ◌∷◌, ◌++◌, length, map, Option, None, Some}
use Rattle.ascii_grid.specs.Tokens.{TokenAt, is_blank, limit, seen, shown}

-- the bytes that are in the buffer and not looked at, and the place of the first of them
pub record Held : Type 0 where
  pub bytes : List ℕ
  pub place : ℕ

-- these bytes are still to come: those in the buffer, and those of the source, which tells them
pub record Ahead (left : Option (List ℕ)) (window : Held) (bytes : List ℕ) : Type 0 where
  pub rest : List ℕ
  pub told : left ≡ Some rest
  pub joined : bytes ≡ window.bytes ++ rest

-- ---- the tokens of bytes, from the last one on

abbrev pub begins_dark : List ℕ → Bool
begins_dark [] = false
begins_dark (byte ∷ rest) = if is_blank byte then false else true

-- a dark byte in front of a text with these tokens, of which the first is one with it or not
abbrev pub led : ℕ → ℕ → Bool → List TokenAt → List TokenAt
led place byte false ts = record { place = place; bytes = byte ∷ [] } ∷ ts
led place byte true [] = record { place = place; bytes = byte ∷ [] } ∷ []
led place byte true (t ∷ ts) = record { place = place; bytes = byte ∷ t.bytes } ∷ ts

abbrev pub tokens_of : ℕ → List ℕ → List TokenAt
tokens_of place [] = []
tokens_of place (byte ∷ rest) =
    if is_blank byte then tokens_of (suc place) rest
    else led place byte (begins_dark rest) (tokens_of (suc place) rest)

-- the tokens that are still to come, of a text of so many bytes
pub record Left (left : Option (List ℕ)) (window : Held) (total : ℕ) (tokens : List TokenAt) :
    Type 0 where
  pub bytes : List ℕ
  pub ahead : Ahead left window bytes
  pub total_is : window.place + length bytes ≡ total
  pub tokens_are : tokens ≡ map seen (shown total (tokens_of window.place bytes))

-- the next token was taken, if there is one
abbrev pub TakesNext : Option (List ℕ) → Held → ℕ → List TokenAt → Option TokenAt → Type 0
TakesNext left window total [] None = (total ≤ limit) × (window.place ≡ total)
TakesNext left window total [] (Some u) = ⊥
TakesNext left window total (t ∷ ts) None = ⊥
TakesNext left window total (t ∷ ts) (Some u) =
    (u ≡ t) × (length u.bytes < 33 → Left left window total ts)
