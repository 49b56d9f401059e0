-- Which entry counts in each slot, of those that several bundles have there.
use Rattle.std.specs.Prelude.{◌≡◌, ℕ, zero, suc, ◌+◌, ◌<◌, ◌≤◌, ◌==◌, List, [], ◌∷◌, length, slice_get, Some, if◌then◌else◌}
use Rattle.bundle_index.specs.Entry.{entry_at}

-- the entry is that of the last bundle whose entry there has a size
pub record IsChosen (bundles : List (List ℕ)) (slot at : ℕ) (bundle : List ℕ) : Type 0 where
  pub there : slice_get bundles at ≡ Some bundle
  pub some : 0 < (entry_at bundle slot).size
  pub last : (i : ℕ) (later : List ℕ) → at < i → slice_get bundles i ≡ Some later
      → (entry_at later slot).size ≡ 0

-- the size of the chosen entry, and 0 where none has a size
unfoldable pub chosen_size : List (List ℕ) → ℕ → ℕ
chosen_size [] slot = 0
chosen_size (b ∷ bs) slot =
    if chosen_size bs slot == 0 then (entry_at b slot).size else chosen_size bs slot

-- the sizes of the chosen entries of the slots below a number, together
unfoldable pub chosen_bytes : List (List ℕ) → ℕ → ℕ
chosen_bytes bundles zero = 0
chosen_bytes bundles (suc slot) = chosen_bytes bundles slot + chosen_size bundles slot

-- the tile that the chosen entry names lies in its bundle, in each slot below a number
abbrev pub AreWhole : List (List ℕ) → ℕ → Type 0
AreWhole bundles n = (slot at : ℕ) (bundle : List ℕ) → slot < n → IsChosen bundles slot at bundle
    → (entry_at bundle slot).offset + (entry_at bundle slot).size ≤ length bundle

-- how many bytes the chosen tiles have together at most: 2^30
abbrev pub most_bytes : ℕ
most_bytes = 1073741824
