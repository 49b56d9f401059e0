-- A level: the tiles of all its bundles.
use Rattle.std.specs.Prelude.{◌≡◌, ℕ, List, Bool, IsTrue, Option, None, Some, IfSome, if◌then◌else◌}
use Rattle.outside_io.specs.declared.volume.VolFile.TheVariants.{Bundle, Journal}
use Rattle.outside_io.specs.volume.Disk.{IsQuiet}
use Rattle.outside_io.specs.volume.History.{History, contents, current}
use Rattle.bundle_store.specs.Images.{StandsFor}
use Rattle.bundle_store.specs.Tiles.{TileMap, no_tiles, with_tile}
use Rattle.level_cache.specs.Places.{Corner, base_of, same_corner, slot_of}

-- the map of each base's bundle
abbrev pub Maps : Type 0
Maps = Corner → TileMap

-- the tile of a place
abbrev pub tile_at : Maps → Corner → Option (List ℕ)
tile_at maps p = maps (base_of p) (slot_of p)

-- one bundle has the tile in its slot
abbrev pub maps_with : Corner → ℕ → List ℕ → Maps → Maps
maps_with base slot tile maps other =
    if same_corner other base then with_tile slot tile (maps other) else maps other

-- what is read of a volume stands for a map; where there is none, no tile is there
abbrev pub ReadsFor : {V : Type 0} → (V → Bool) → (V → History) → Option V → TileMap → Type 0
ReadsFor told history None map = map ≡ no_tiles
ReadsFor told history (Some v) map = IsTrue (told v)
    × StandsFor (contents Bundle (history v)) (contents Journal (history v)) map

abbrev pub AreMaps : {V : Type 0} → (V → Bool) → (V → History) → (Corner → Option V) → Maps → Type 0
AreMaps told history volumes maps = (base : Corner)
    → ReadsFor told history (volumes base) (maps base)

-- nothing is pending on any volume
abbrev pub AreQuiet : {V : Type 0} → (V → History) → (Corner → Option V) → Type 0
AreQuiet history volumes = (base : Corner)
    → IfSome (volumes base) (λ v. IsQuiet (current (history v)))
