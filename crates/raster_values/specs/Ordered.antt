-- Values of the marked pixels in the flat vector.
use Rattle.std.specs.Prelude.{◌≡◌, ℕ, ℤ, pos, ◌+◌, ◌*◌, ◌<◌, Bool, true, false, List, length, get_or, All, ◌≤◌, drop}
use Rattle.raster_cells.specs.declared.kind.PixelType.{PixelType}
use Rattle.raster_cells.specs.PixelType.{InRange, Spells, bytes_of}

-- each of the first n pixels has this list of values, where it is marked, and no other value was
-- changed
pub record FillsMarked (n : ℕ) (marks : List Bool) (pixel old new : List ℤ) : Type 0 where
  pub each : (k d : ℕ) → k < n → d < length pixel → get_or marks k false ≡ true
      → get_or new (k * length pixel + d) (pos 0) ≡ get_or pixel d (pos 0)
  pub rest : (k d : ℕ) → d < length pixel → (k < n → get_or marks k false ≡ false)
      → get_or new (k * length pixel + d) (pos 0) ≡ get_or old (k * length pixel + d) (pos 0)

-- the values of the pixels that are not marked are as they were
pub record KeepsUnmarked (depth : ℕ) (marks : List Bool) (old new : List ℤ) : Type 0 where
  pub rest : (k d : ℕ) → d < depth → get_or marks k false ≡ false
      → get_or new (k * depth + d) (pos 0) ≡ get_or old (k * depth + d) (pos 0)

-- no other values than those of marked pixels were changed, and all stay values of the type
pub record ChangesMarked (kind : PixelType) (depth : ℕ) (marks : List Bool)
    (old new : List ℤ) : Type 0 where
  pub size : length new ≡ length old
  pub in_range : All (InRange kind) old → All (InRange kind) new
  pub rest : KeepsUnmarked depth marks old new

-- at depth d the first n pixels from `place` on have these values, where they are marked, and no
-- other value was changed
pub record PutsMarked (depth d : ℕ) (marks : List Bool) (place n : ℕ)
    (input old new : List ℤ) : Type 0 where
  pub put : (i : ℕ) → i < n → get_or marks (place + i) false ≡ true
      → get_or new ((place + i) * depth + d) (pos 0) ≡ get_or input i (pos 0)
  pub rest : (k e : ℕ) → e < depth
      → (place ≤ k → k < place + n → get_or marks k false ≡ true → e ≡ d → ⊥)
      → get_or new (k * depth + e) (pos 0) ≡ get_or old (k * depth + e) (pos 0)

-- each of the first n pixels has the values that the bytes of all pixels' values have at its place,
-- where it is marked, and no other value was changed
pub record PutsMarkedBytes (kind : PixelType) (depth n : ℕ) (marks : List Bool) (bytes : List ℕ)
    (old new : List ℤ) : Type 0 where
  pub each : (k d : ℕ) → k < n → d < depth → get_or marks k false ≡ true
      → Spells kind (drop ((k * depth + d) * bytes_of kind) bytes)
      (get_or new (k * depth + d) (pos 0))
  pub rest : (k d : ℕ) → d < depth → (k < n → get_or marks k false ≡ false)
      → get_or new (k * depth + d) (pos 0) ≡ get_or old (k * depth + d) (pos 0)
