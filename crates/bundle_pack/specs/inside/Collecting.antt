-- The chosen tiles, as they are read slot by slot.
use Rattle.std.specs.Prelude.{◌≡◌, ◌⊎◌, ℕ, ◌<◌, ◌≤◌, ◌++◌, List, [], ◌∷◌, length, slice_get, Option, Some, None, Result, Ok, Err, Bool, IsTrue, Vec}
use Rattle.std.specs.declared.alloc.Global.{Global}
use Rattle.outside_io.specs.streams.Faults.{IsCause}
use Rattle.outside_io.specs.declared.volume.VolFile.TheVariants.{Bundle}
use Rattle.outside_io.specs.volume.History.{During, History, contents, current}
use Rattle.bundle_index.specs.Entry.{entry_at}
use Rattle.bundle_index.specs.Sizes.{slot_count}
use Rattle.bundle_store.specs.declared.fault.StoreFault.TheVariants as store
use Rattle.bundle_store.specs.declared.tile_rec.TileRec.{TileRec}
use Rattle.bundle_store.specs.Ahead.{AheadBytes, IsAheadOf}
use Rattle.bundle_store.specs.Build.{map_after}
use Rattle.bundle_store.specs.Session.{GetGives, IsBeyond, Serves, SessionState}
use Rattle.bundle_store.specs.Tiles.{TileMap, no_tiles}
use Rattle.opened_bundle.specs.Files.{Files}
use Rattle.bundle_pack.specs.Chosen.{AreWhole, IsChosen}
use Rattle.bundle_pack.specs.Packing.{AreRead, IsFirstBeyond, IsUnread, PackSays, merged_tiles}
use Rattle.bundle_pack.specs.Refusals.{PackFails}
use Rattle.bundle_pack.specs.declared.chosen.Choice.{Choice}
use Rattle.bundle_pack.specs.declared.fault.PackFault.{PackFault}
use Rattle.bundle_pack.specs.declared.fault.PackFault.TheVariants.{Source, Target, OutOfMemory}

-- each session serves its bundle
pub record AreServed (sessions : List SessionState) (bundles : List (List ℕ)) : Type 0 where
  pub many : length bundles ≡ length sessions
  pub each : (i : ℕ) (s : SessionState) (b : List ℕ) → slice_get sessions i ≡ Some s
      → slice_get bundles i ≡ Some b → Serves s b

-- what was read at once of each source is of its bundle
pub record AreAhead {V : Type 0} (told : V → Bool) (history : V → History) (vs : List V)
    (aheads : List AheadBytes) : Type 0 where
  pub many : length aheads ≡ length vs
  pub each : (i : ℕ) (v : V) (a : AheadBytes) → slice_get vs i ≡ Some v
      → slice_get aheads i ≡ Some a → IsTrue (told v)
      → IsAheadOf (contents Bundle (history v)) a

-- The entry that counts in the slot, and its size; or none there has one.
abbrev pub IsChoice : List (List ℕ) → ℕ → Option Choice → Type 0
IsChoice bundles slot None = (i : ℕ) (b : List ℕ) → slice_get bundles i ≡ Some b
    → (entry_at b slot).size ≡ 0
IsChoice bundles slot (Some c) = (bundle : List ℕ) × (IsChosen bundles slot c.at bundle
    × ((entry_at bundle slot).size ≡ c.size))

-- What is left of a source that was read from: its files at each moment as they were.
pub record IsStill {V : Type 0} (told : V → Bool) (history : V → History) (faults : V → ℕ)
    (failed : Type 0) (old new : V) : Type 0 where
  pub told_same : told new ≡ told old
  pub still : IsTrue (told old) → During (λ d. d ≡ current (history old)) (history old)
      (history new)
  pub cause : IsCause failed (faults old) (faults new)

-- what reading one tile of one source gives: none where it has none
abbrev pub GetSays : List ℕ → ℕ → Result (Option (List ℕ)) PackFault → Type 0
GetSays bundle slot (Ok None) = (entry_at bundle slot).size ≡ 0
GetSays bundle slot (Ok (Some tile)) = GetGives bundle slot tile
GetSays bundle slot (Err (Source at (Some s) (store.Beyond entry got))) =
    IsBeyond bundle slot entry got
GetSays bundle slot (Err _) = Unit {0}

-- why it is refused, of whatever volume: the source's number and the slot are these
abbrev pub IsGetFault : ℕ → ℕ → PackFault → Type 0
IsGetFault at slot OutOfMemory = Unit {0}
IsGetFault at slot (Source number None store.Device) = number ≡ at
IsGetFault at slot (Source number (Some s) (store.Beyond entry got)) =
    (number ≡ at) × ((s ≡ slot) × (got < entry.size))
IsGetFault at slot _ = ⊥

-- the tile of one slot was read, where one is chosen
abbrev pub TakesTile : List (List ℕ) → ℕ → List TileRec → List TileRec → Type 0
TakesTile bundles slot old new =
    (IsChoice bundles slot None × (new ≡ old))
    ⊎ ((at : ℕ) × ((bundle tile : List ℕ) × (IsChosen bundles slot at bundle
    × (GetGives bundle slot tile × (new ≡ old ++ (record { slot = slot; bytes = tile }) ∷ [])))))

-- why a tile was not read, of one slot
abbrev pub TileSays : List (List ℕ) → ℕ → PackFault → Type 0
TileSays bundles slot (Source at (Some s) (store.Beyond entry got)) = (s ≡ slot)
    × ((bundle : List ℕ) × (IsChosen bundles slot at bundle
    × (IsBeyond bundle slot entry got × (got < entry.size))))
TileSays bundles slot (Source at None store.Device) =
    (bundle : List ℕ) × IsChosen bundles slot at bundle
TileSays bundles slot OutOfMemory = Unit {0}
TileSays bundles slot _ = ⊥

-- a refusal of the sources, of whatever volumes: none is of the target
abbrev pub ReadFails : ℕ → PackFault → Type 0
ReadFails count (Target fault) = ⊥
ReadFails count fault = PackFails count fault

abbrev pub no_files : Files
no_files = record { bundle = []; journal = [] }

-- all of them were read, and are the merged tiles; or why the first one was not
abbrev pub TilesSay : List (List ℕ) → Result (Vec TileRec Global) PackFault → Type 0
TilesSay bundles (Ok tiles) = AreWhole bundles slot_count
    × (map_after no_tiles tiles.items ≡ merged_tiles bundles)
TilesSay bundles (Err (Source at (Some slot) (store.Beyond entry got))) =
    IsFirstBeyond bundles at slot entry got
TilesSay bundles (Err (Source at None store.Device)) = IsUnread bundles at
TilesSay bundles (Err OutOfMemory) = Unit {0}
TilesSay bundles (Err _) = ⊥

-- the same of all sources, from their files on
abbrev pub ReadSays : List Files → Result (Vec TileRec Global) PackFault → Type 0
ReadSays sources (Ok tiles) = (bundles : List (List ℕ)) × (AreRead sources bundles
    × (map_after no_tiles tiles.items ≡ merged_tiles bundles))
ReadSays sources (Err (Target fault)) = ⊥
ReadSays sources (Err fault) = PackSays sources no_files (Err fault)

-- of the slots below a number the merged tiles
abbrev pub IsMergedBelow : List (List ℕ) → ℕ → TileMap → Type 0
IsMergedBelow bundles n map = (slot : ℕ) → ((slot < n) → map slot ≡ merged_tiles bundles slot)
    × ((n ≤ slot) → map slot ≡ None)
