-- Bytes that stand for values, one value behind the other.
use Rattle.std.specs.Prelude.{ℕ, ℤ, List, ◌≡◌, pos, ◌-ℤ◌, ◌*◌, ◌<◌, length, drop, get_or, map, All}
use Rattle.std.specs.List.{flat_map}
use Rattle.byteorder.specs.Endian.{little_number}
use Rattle.raster_cells.specs.declared.kind.PixelType.{PixelType}
use Rattle.raster_cells.specs.PixelType.{value_bytes, bytes_of, value_of, InRange}

-- the bytes of values, one value behind the other
abbrev pub values_bytes : PixelType → List ℤ → List ℕ
values_bytes kind values = flat_map (value_bytes kind) values

-- the bytes are those of the values and no more: from each value's place on they spell it
pub record AreValues (kind : PixelType) (bytes : List ℕ) (values : List ℤ) : Type 0 where
  pub size : length bytes ≡ length values * bytes_of kind
  pub each : (i : ℕ) → i < length values
      → get_or values i (pos 0)
      ≡ value_of kind (little_number (bytes_of kind) (drop (i * bytes_of kind) bytes))

-- the bytes of values stand for them
abbrev pub WrittenValuesStand : Type 0
WrittenValuesStand = (kind : PixelType) (values : List ℤ) → All (InRange kind) values
    → AreValues kind (values_bytes kind values) values

-- bytes stand for one list of values
abbrev pub ValuesAreOnce : Type 0
ValuesAreOnce = (kind : PixelType) (bytes : List ℕ) (values others : List ℤ)
    → AreValues kind bytes values → AreValues kind bytes others → values ≡ others

-- so many bytes stand for some values, each of them in the type's range
abbrev pub ValuesAreThere : Type 0
ValuesAreThere = (kind : PixelType) (bytes : List ℕ) (n : ℕ) → ((i : ℕ) → get_or bytes i 0 < 256)
    → length bytes ≡ n * bytes_of kind
    → (values : List ℤ)
    × (AreValues kind bytes values
    × ((length values ≡ n) × (All (InRange kind) values × (bytes ≡ values_bytes kind values))))

-- the values that bytes tell, each by how far it is above a number that is so far below zero
abbrev pub values_above : ℕ → List ℕ → List ℤ
values_above below bytes = map (λ x. pos x -ℤ pos below) bytes
