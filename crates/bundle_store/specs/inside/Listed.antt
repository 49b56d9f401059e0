-- The list of the tiles of a put.
use Rattle.std.specs.Prelude.{List, [], ◌∷◌}
use Rattle.bundle_store.specs.declared.updates.Tiles.{Tiles}
use Rattle.bundle_store.specs.declared.updates.Tiles.TheVariants.{One, All}
use Rattle.bundle_store.specs.declared.tile_rec.TileRec.{TileRec}

abbrev pub listed : Tiles → List TileRec
listed (One slot tile) = record { slot = slot; bytes = tile.now } ∷ []
listed (All tiles) = tiles.now
