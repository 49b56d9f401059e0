-- One tile, as it is taken from a source and given to a sink.
use Rattle.std.specs.Prelude.{◌≡◌, ℕ, List, Option, Some, None, Bool, Result, Ok, Err}
use Rattle.first_fault.specs.Faults.{moved}
use Rattle.outside_io.specs.streams.Sink.{Holds, HoldsPrefix}
use Rattle.bundle_store.specs.declared.tile_rec.TileRec.{TileRec}
use Rattle.opened_bundle.specs.declared.refusal.StoreRefusal.{StoreRefusal}
use Rattle.program_ends.specs.declared.stop.Stop.{Stop}
use Rattle.program_ends.specs.declared.stop.Stop.TheVariants.{Output}
use Rattle.bundle_tiles.specs.declared.raw_tile.RawStop.{RawStop}
use Rattle.bundle_tiles.specs.declared.raw_tile.RawStop.TheVariants.{Fault, Source, OutOfMemory}
use Rattle.bundle_tiles.specs.Exported.{IsTileAt, StopsAt}
use Rattle.bundle_tiles.specs.RawTile.{IsRawTile, body_faults}

-- of the bytes left, where they are told, fewer than these follow; places count from `at`
abbrev pub IsToldBody : Option (List ℕ) → ℕ → ℕ → RawStop → Type 0
IsToldBody None at size stop = Unit {0}
IsToldBody (Some left) at size (Fault f) = moved at (body_faults size left) f.place f.reason
IsToldBody (Some left) at size Source = Unit {0}
IsToldBody (Some left) at size OutOfMemory = Unit {0}

-- the tile's bytes in a stream, and what the output has gained of them
abbrev pub GaveTile : TileRec → (List ℕ → Type 0) → Type 0
GaveTile tile gained = (bytes : List ℕ) × (IsRawTile bytes tile × gained bytes)

-- the tile of a slot was given whole, or a prefix of it where the output failed; or it is not there
-- whole, and nothing of it was given
abbrev pub SlotGave : Result (Unit {0}) (Stop StoreRefusal) → Bool → List ℕ → ℕ
    → Option (List ℕ) → Option (List ℕ) → Type 0
SlotGave (Ok x) told bundle slot old new = (tile : TileRec)
    × (IsTileAt told bundle slot tile × GaveTile tile (Holds old new))
SlotGave (Err Output) told bundle slot old new = (tile : TileRec)
    × (IsTileAt told bundle slot tile × GaveTile tile (HoldsPrefix old new))
SlotGave (Err stop) told bundle slot old new = StopsAt told bundle slot stop × (new ≡ old)
