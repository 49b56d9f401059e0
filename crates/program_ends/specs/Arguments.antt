-- What a call on the giver of a command line's texts answers. The first argument has all the texts,
-- None where they are not told.
use Rattle.std.specs.Prelude.{◌≡◌, ◌⊎◌, ℕ, ◌≤◌, ◌<◌, List, length, take, codes, slice_get, Option, None, Some, IsSomeAnd, Result, Ok, Err}
use Rattle.std.specs.Str.{IsUtf8}
use Rattle.std.specs.declared.env.FillError.{FillError}
use Rattle.std.specs.declared.env.FillError.TheVariants.{NotPresent, TooLong}

-- The text with this number stands at the front of the buffer, or there is none, or the buffer is
-- too short for it.
abbrev pub GivesText : Option (List (List ℕ)) → ℕ → Result ℕ FillError → List ℕ → Type 0
GivesText None number result buf = Unit {0}
GivesText (Some texts) number (Ok n) buf = slice_get texts number ≡ Some (take n buf)
GivesText (Some texts) number (Err NotPresent) buf = length texts ≤ number
GivesText (Some texts) number (Err TooLong) buf =
    IsSomeAnd (slice_get texts number) (λ text. length buf < length text)

-- The text names no path: there is none, it is empty, it is `-`, or it is no UTF-8.
abbrev pub IsNoPath : Option (List ℕ) → Type 0
IsNoPath None = Unit {0}
IsNoPath (Some text) = (length text ≡ 0) ⊎ ((text ≡ codes "-") ⊎ (¬ IsUtf8 text))

-- Two texts name no two bundles: one names no path, or both are the same.
abbrev pub IsNoPair : Option (List ℕ) → Option (List ℕ) → Type 0
IsNoPair one two = IsNoPath one ⊎ (IsNoPath two ⊎ (one ≡ two))
