-- The values of a type as numbers from 0 on: how far each is above the type's least.
use Rattle.std.specs.Prelude.{ℕ, ℤ, ◌-ℤ◌, unsigned_abs, pos, ◌+ℤ◌, ◌*◌, ◌^◌, ◌<◌, ◌≡◌, List, All, map, ◌↔◌, ◌≤◌, ◌≤ℤ◌}
use Rattle.raster_cells.specs.declared.kind.PixelType.{PixelType}
use Rattle.raster_cells.specs.PixelType.{type_least, bytes_of, InRange}

-- how far a value is above the least
abbrev pub distance_of : PixelType → ℤ → ℕ
distance_of kind value = unsigned_abs (value -ℤ type_least kind)

-- the value that is so far above the least
abbrev pub value_above : PixelType → ℕ → ℤ
value_above kind distance = type_least kind +ℤ pos distance

-- there is such a value
abbrev pub IsDistance : PixelType → ℕ → Type 0
IsDistance kind distance = distance < 2 ^ (8 * bytes_of kind)

-- values as distances, and these as values again, are the values
abbrev pub DistancesStand : Type 0
DistancesStand = (kind : PixelType) (values : List ℤ) → All (InRange kind) values
    → map (value_above kind) (map (distance_of kind) values) ≡ values

-- the distance of each value is one
abbrev pub ValuesHaveDistances : Type 0
ValuesHaveDistances = (kind : PixelType) (value : ℤ) → InRange kind value
    → IsDistance kind (distance_of kind value)

-- each such number is the distance of one value of the type
abbrev pub DistancesHaveValues : Type 0
DistancesHaveValues = (kind : PixelType) (distance : ℕ) → IsDistance kind distance
    → InRange kind (value_above kind distance)
    × (distance_of kind (value_above kind distance) ≡ distance)

-- the greater value is further above the least
abbrev pub DistancesKeepOrder : Type 0
DistancesKeepOrder = (kind : PixelType) (value other : ℤ) → InRange kind value → InRange kind other
    → (value ≤ℤ other) ↔ (distance_of kind value ≤ distance_of kind other)
