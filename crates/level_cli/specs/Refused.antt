-- What refuses a command first: its input, and behind that the store.
use Rattle.std.specs.Prelude.{◌≡◌, ◌⊎◌, ℕ, ◌+◌, ◌^◌, ◌<◌, ◌≤◌, List, length, Bool, Option, Some}
use Rattle.outside_io.specs.volume.History.{History}
use Rattle.bundle_index.specs.Entry.{entry_at}
use Rattle.bundle_store.specs.Session.{IsBeyond}
use Rattle.lerc_header.specs.declared.header.Version.{Version}
use Rattle.opened_bundle.specs.Files.{Files, OfBundle}
use Rattle.opened_bundle.specs.Refusals.{IsOpening}
use Rattle.opened_bundle.specs.declared.refusal.StoreRefusal.TheVariants.{NoTile, Beyond, BadBundle, BadJournal, Full}
use Rattle.grid_blobs.specs.Blobs.{AreBlobsOf}
use Rattle.grid_blobs.specs.Stops.{IsFirstFault}
use Rattle.level_cache.specs.Calls.{files_in}
use Rattle.level_cache.specs.Places.{Corner, slot_of}
use Rattle.level_cli.specs.Granted.{OfHanded}
use Rattle.level_cli.specs.declared.refusal.Refusal.{Refusal}
use Rattle.level_cli.specs.declared.refusal.Refusal.TheVariants.{Input, Store, TooLarge}
use Rattle.level_cli.specs.declared.words.Command.{Command}
use Rattle.level_cli.specs.declared.words.Command.TheVariants.{Put, Get, Name}

-- the first fault of an input that is to be one grid
abbrev pub InputRefuses : Version → List ℕ → Refusal → Type 0
InputRefuses version bytes (Input fault) = IsFirstFault version bytes fault.place fault.reason
InputRefuses version bytes refusal = ⊥

-- The first refusal of a put of so many bytes beside these files: of the recovery, of opening, of
-- the tile, of the room.
abbrev pub PutIsRefused : Files → ℕ → Refusal → Type 0
PutIsRefused files size (Store (BadJournal at number)) =
    IsOpening (Some files) (BadJournal at number)
PutIsRefused files size (Store (BadBundle at number)) = IsOpening (Some files) (BadBundle at number)
PutIsRefused files size (TooLarge len) =
    OfBundle (Some files) (λ bundle. (len ≡ size) × (16777215 < size))
PutIsRefused files size (Store (Full len)) = OfBundle (Some files) (λ bundle.
    (len ≡ length bundle) × ((size ≤ 16777215) × (2 ^ 40 < len + 4 + size)))
PutIsRefused files size refusal = ⊥

-- the first refusal of a get of the place beside these files, with the level's row and column
abbrev pub GetIsRefused : Files → Corner → Refusal → Type 0
GetIsRefused files place (Store (BadJournal at number)) =
    IsOpening (Some files) (BadJournal at number)
GetIsRefused files place (Store (BadBundle at number)) =
    IsOpening (Some files) (BadBundle at number)
GetIsRefused files place (Store (NoTile row col)) = (row ≡ place.row) × ((col ≡ place.col)
    × OfBundle (Some files) (λ bundle. (entry_at bundle (slot_of place)).size ≡ 0))
GetIsRefused files place (Store (Beyond row col entry got)) =
    (row ≡ place.row) × ((col ≡ place.col) × ((got < entry.size)
    × OfBundle (Some files) (λ bundle. IsBeyond bundle (slot_of place) entry got)))
GetIsRefused files place refusal = ⊥

-- The command's first refusal: that of its input, which is told, else that of the store beside the
-- files of whatever volume the shelf hands out for the place.
abbrev pub IsFirstRefusal : {V : Type 0} → (V → Bool) → (V → History) → (V → ℕ)
    → (Corner → Option V) → Option (List ℕ) → Command → Refusal → Type 0
IsFirstRefusal {V} told history faults volumes input (Put version error place) refusal =
    (bytes : List ℕ) × ((input ≡ Some bytes) × (InputRefuses version bytes refusal
    ⊎ ((tile : List ℕ) × (AreBlobsOf version error input tile
    × OfHanded told history faults volumes place
    (λ h. PutIsRefused (files_in h) (length tile) refusal)))))
IsFirstRefusal {V} told history faults volumes input (Get place) refusal =
    OfHanded told history faults volumes place (λ h. GetIsRefused (files_in h) place refusal)
IsFirstRefusal {V} told history faults volumes input (Name place) refusal = ⊥
