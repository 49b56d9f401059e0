-- The tiles of a batch.
use Rattle.std.specs.Prelude.{ℕ, ◌*◌, List, [], ◌∷◌, length, map, sum}
use Rattle.raster_values.specs.Raster.{Pixels}
use Rattle.tile_stream.specs.declared.tile.Tile.{Tile}

-- the tiles of these slots and bands, in their order
abbrev pub tiles_of : List ℕ → List (List Pixels) → List Tile
tiles_of [] tiles = []
tiles_of (s ∷ ss) [] = []
tiles_of (s ∷ ss) (b ∷ bs) = record { slot = s; bands = b } ∷ tiles_of ss bs

-- how many values bands have: each as many as the first
abbrev pub values_in : List Pixels → ℕ
values_in [] = 0
values_in (r ∷ more) = length (r ∷ more) * (r.rows * r.cols * r.depth)

-- how many values all tiles have together
abbrev pub values_of : List Tile → ℕ
values_of tiles = sum (map (λ t. values_in t.bands) tiles)
