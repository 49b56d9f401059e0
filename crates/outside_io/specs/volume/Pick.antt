-- Which image a crash is to leave.
use Rattle.std.specs.Prelude.{◌≡◌, ◌⊎◌, ℕ, ◌+◌, ◌<◌, ◌≤◌, List, [], ◌∷◌, length, slice_index}
use Rattle.outside_io.specs.declared.volume.image.Pick.{Pick}
use Rattle.outside_io.specs.declared.volume.image.Pick.TheVariants.{Oldest, Newest, Torn}
use Rattle.outside_io.specs.volume.Disk.{File, IsUntouched}

-- a written range has this place
abbrev pub IsTouched : List (ℕ × ℕ) → ℕ → Type 0
IsTouched [] i = ⊥
IsTouched (r ∷ rs) i = ((r.0 ≤ i) × (i < r.0 + r.1)) ⊎ IsTouched rs i

-- What a read gives, with each byte set to b that may be anything: those that were written since
-- the last sync, and those past the synced length.
pub record IsTorn (b : ℕ) (f : File) (c : List ℕ) : Type 0 where
  pub size : length c ≡ length f.now
  pub torn : (i : ℕ) → i < length c → IsTouched f.touched i ⊎ (length f.base ≤ i)
      → slice_index c i ≡ b
  pub kept : (i : ℕ) → i < length c → IsUntouched f.touched i → i < length f.base
      → slice_index c i ≡ slice_index f.now i

-- the file as it was last synced, as a read gives it, or torn
abbrev pub IsPicked : Pick → File → List ℕ → Type 0
IsPicked Oldest f c = c ≡ f.base
IsPicked Newest f c = c ≡ f.now
IsPicked (Torn b) f c = IsTorn b f c
