-- Bits that are so many marks.
use Rattle.std.specs.Prelude.{◌≡◌, ℕ, ◌+◌, ◌/◌, ◌≤◌, List, length, Bool, true, replicate, nat_eq, if◌then◌else◌}
use Rattle.std.specs.List.{count_by}
use Rattle.raster_cells.specs.Masks.{marks_in}

pub record AreBits (count valid : ℕ) (bytes : List ℕ) : Type 0 where
  pub few : count ≤ 16777216
  pub size : length bytes ≡ (count + 7) / 8
  pub counted : valid ≡ count_by (λ m. m) (marks_in count bytes)

-- where all are marked no bit is looked at, and none need be there
abbrev pub marks_with : ℕ → ℕ → List ℕ → List Bool
marks_with count valid bytes = if nat_eq valid count
    then replicate count true else marks_in count bytes

pub record AreMarksWith (count valid : ℕ) (bytes : List ℕ) : Type 0 where
  pub few : count ≤ 16777216
  pub bits : (valid ≡ count → ⊥) → AreBits count valid bytes
