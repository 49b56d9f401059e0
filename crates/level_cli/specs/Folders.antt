-- The folder that a command line names, by its first word.
use Rattle.std.specs.Prelude.{◌≡◌, ◌⊎◌, ℕ, List, length, codes, Option, None, Some}
use Rattle.std.specs.Str.{IsUtf8}

-- the word, if there is one, is empty or no UTF-8
abbrev pub NamesNoFolder : Option (List ℕ) → Type 0
NamesNoFolder None = ⊥
NamesNoFolder (Some text) = (length text ≡ 0) ⊎ (¬ IsUtf8 text)

-- the word says this folder, and `.` is that of no word
abbrev pub NamesFolder : Option (List ℕ) → List ℕ → Type 0
NamesFolder None folder = folder ≡ codes "."
NamesFolder (Some text) folder = folder ≡ text
