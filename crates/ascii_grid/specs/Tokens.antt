-- A text as a list of tokens, each with its place.
use Rattle.std.specs.Prelude.{◌≡◌, ℕ, ◌+◌, ◌<◌, Bool, true, false, ◌||◌, ◌&&◌, ◌==◌, nat_lt, nat_le, if◌then◌else◌, List, [], ◌∷◌, ◌++◌, length, take, All}

pub record TokenAt : Type 0 where
  pub place : ℕ
  pub bytes : List ℕ

-- a space, a tab, a carriage return or a line feed
abbrev pub is_blank : ℕ → Bool
is_blank byte = (byte == 32) || ((byte == 9) || ((byte == 13) || (byte == 10)))

abbrev pub IsBlank : ℕ → Type 0
IsBlank byte = is_blank byte ≡ true

abbrev pub IsDark : ℕ → Type 0
IsDark byte = is_blank byte ≡ false

-- what ends a token: a blank, or the end of the text
abbrev pub EndsToken : List ℕ → Type 0
EndsToken [] = Unit {0}
EndsToken (byte ∷ rest) = IsBlank byte

-- The tokens of a text of which the first byte is at this place: blanks, a token, and so on.
abbrev pub AreTokens : ℕ → List ℕ → List TokenAt → Type 0
AreTokens from text [] = All IsBlank text
AreTokens from text (t ∷ ts) = (gap rest : List ℕ)
    × ((text ≡ gap ++ (t.bytes ++ rest)) × (All IsBlank gap × ((t.place ≡ from + length gap)
    × ((0 < length t.bytes) × (All IsDark t.bytes × (EndsToken rest
    × AreTokens (t.place + length t.bytes) rest ts))))))

-- ---- what is looked at of a text

-- A token is looked at as its first 33 bytes: no keyword, text or number has so many.
abbrev pub seen : TokenAt → TokenAt
seen t = record { place = t.place; bytes = take 33 t.bytes }

-- a text has at most so many bytes
abbrev pub limit : ℕ
limit = 1073741824

-- The token is decided before the byte at the limit: it ends before it, or 33 of its bytes stand
-- before it.
abbrev pub is_decided : TokenAt → Bool
is_decided t = nat_lt (t.place + length t.bytes) limit
    || (nat_le 33 (length t.bytes) && nat_le (t.place + 33) limit)

abbrev pub decided_front : List TokenAt → List TokenAt
decided_front [] = []
decided_front (t ∷ ts) = if is_decided t then t ∷ decided_front ts else []

-- of the tokens of a text of so many bytes those that are looked at: all, where it has no byte at
-- the limit
abbrev pub shown : ℕ → List TokenAt → List TokenAt
shown total ts = if nat_le total limit then ts else decided_front ts
