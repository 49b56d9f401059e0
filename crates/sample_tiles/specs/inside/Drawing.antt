-- A tile of which some first pixels are drawn.
use Rattle.std.specs.Prelude.{◌≡◌, ℕ, ℤ, ◌<◌, ◌≤◌, List, [], ◌∷◌, length, get_or, Option, None, Some}
use Rattle.raster_cells.specs.declared.kind.PixelType.TheVariants.{I16}
use Rattle.raster_values.specs.Raster.{Pixels}
use Rattle.sample_tiles.specs.Drawn.{sample_pixel}

-- the pixel with this value, if there is one
abbrev pub pixel_of : Option ℤ → Option (List ℤ)
pixel_of None = None
pixel_of (Some v) = Some (v ∷ [])

-- a tile of these pixels
abbrev pub tile_of : List (Option (List ℤ)) → Pixels
tile_of pixels = record { kind = I16; rows = 64; cols = 64; depth = 1; pixels = pixels }

-- a tile whose pixels from number k on are invalid
pub record IsOpenFrom (k : ℕ) (tile : Pixels) : Type 0 where
  pub shape : tile ≡ tile_of tile.pixels
  pub places : length tile.pixels ≡ 4096
  pub rest : (i : ℕ) → k ≤ i → get_or tile.pixels i None ≡ None

-- its first k pixels are drawn
abbrev pub IsDrawn : ℕ → ℕ → ℕ → Pixels → Type 0
IsDrawn start t k tile =
    (i : ℕ) → i < k → get_or tile.pixels i None ≡ sample_pixel start t i
