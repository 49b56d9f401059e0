-- Values of one type, kept as their bytes.
use Rattle.std.specs.Prelude.{[], ℤ, List, ℕ, zero, suc, ◌∷◌, drop, ◌≡◌, ◌*◌, ◌≤◌, length, All}
use Rattle.byteorder.specs.Endian.{little_number}
use Rattle.raster_cells.specs.declared.kind.PixelType.{PixelType}
use Rattle.raster_cells.specs.PixelType.{bytes_of, value_of, InRange}

pub record CellList : Type 0 where
  pub kind : PixelType
  pub values : List ℤ

-- the first n values that the bytes stand for
unfoldable pub values_in : PixelType → ℕ → List ℕ → List ℤ
values_in kind zero bytes = []
values_in kind (suc n) bytes =
    value_of kind (little_number (bytes_of kind) bytes)
    ∷ values_in kind n (drop (bytes_of kind) bytes)

-- the first n values, with their type
abbrev pub cells_in : PixelType → ℕ → List ℕ → CellList
cells_in kind n bytes = record { kind = kind; values = values_in kind n bytes }

-- each of so many pixels has `depth` values of this type
pub record AreOf (t : PixelType) (depth pixels : ℕ) (cells : CellList) : Type 0 where
  pub kind : t ≡ cells.kind
  pub size : length cells.values ≡ pixels * depth
  pub few : length cells.values ≤ 16777216

-- as many values of the same type
pub record KeepsForm (old new : CellList) : Type 0 where
  pub kind : new.kind ≡ old.kind
  pub in_range : All (InRange old.kind) old.values → All (InRange old.kind) new.values
  pub size : length new.values ≡ length old.values
