-- What packing answers, of sources and a target whose files are told.
use Rattle.std.specs.Prelude.{◌≡◌, ◌⊎◌, ℕ, ◌<◌, ◌≤◌, List, [], length, map, Option, Some, None, Result, Ok, Err}
use Rattle.outside_io.specs.volume.Disk.{Disk, IsImage}
use Rattle.outside_io.specs.volume.History.{During, History, current}
use Rattle.bundle_index.specs.Sizes.{slot_count}
use Rattle.bundle_index.specs.declared.entry.Entry.{Entry}
use Rattle.bundle_store.specs.declared.fault.StoreFault.{StoreFault}
use Rattle.bundle_store.specs.declared.fault.StoreFault.TheVariants as store
use Rattle.bundle_store.specs.Built.{filled}
use Rattle.bundle_store.specs.Causes.{OnCause}
use Rattle.bundle_store.specs.Images.{HoldsClosed, StandsFor}
use Rattle.bundle_store.specs.Layout.{layout}
use Rattle.bundle_store.specs.Recover.{EachStandsForOneOf, StandsForOneOf}
use Rattle.bundle_store.specs.Session.{IsBeyond}
use Rattle.bundle_store.specs.Tiles.{TileMap, tiles}
use Rattle.opened_bundle.specs.Files.{Files}
use Rattle.bundle_pack.specs.Chosen.{AreWhole, IsChosen, chosen_bytes, most_bytes}
use Rattle.bundle_pack.specs.Merged.{merged}
use Rattle.bundle_pack.specs.Opening.{AreOpened, IsFirstUnopened, OpeningFault, OpensAs}
use Rattle.bundle_pack.specs.declared.fault.PackFault.{PackFault}
use Rattle.bundle_pack.specs.declared.fault.PackFault.TheVariants.{Source, Target, KeptTooMuch, OutOfMemory}
use Rattle.bundle_pack.specs.declared.packing.PackReport.{PackReport}

-- what the bundles have together
abbrev pub merged_tiles : List (List ℕ) → TileMap
merged_tiles bundles = merged (map tiles bundles)

-- All sources open, as these bundles, and their chosen tiles are not too many bytes.
pub record AreTaken (sources : List Files) (bundles : List (List ℕ)) : Type 0 where
  pub opened : AreOpened sources bundles
  pub few : chosen_bytes bundles slot_count ≤ most_bytes

-- and each chosen tile lies in its bundle, so that it was read
pub record AreRead (sources : List Files) (bundles : List (List ℕ)) : Type 0 where
  pub taken : AreTaken sources bundles
  pub whole : AreWhole bundles slot_count

-- the first chosen tile, by slot, that names more bytes than its bundle has
pub record IsFirstBeyond (bundles : List (List ℕ)) (at slot : ℕ) (entry : Entry) (got : ℕ) :
    Type 0 where
  pub bundle : List ℕ
  pub within : slot < slot_count
  pub chosen : IsChosen bundles slot at bundle
  pub beyond : IsBeyond bundle slot entry got
  pub more : got < entry.size
  pub before : AreWhole bundles slot

-- the source's volume failed as its tile was read: the chosen tiles before that one lie in theirs
pub record IsUnread (bundles : List (List ℕ)) (at : ℕ) : Type 0 where
  pub slot : ℕ
  pub bundle : List ℕ
  pub within : slot < slot_count
  pub chosen : IsChosen bundles slot at bundle
  pub before : AreWhole bundles slot

-- Why a source refuses: as it is opened, or behind that as its tile is read.
abbrev pub SourceSays : List Files → ℕ → Option ℕ → StoreFault → Type 0
SourceSays sources at None store.Device = IsFirstUnopened sources at store.Device
    ⊎ ((bundles : List (List ℕ)) × (AreTaken sources bundles × IsUnread bundles at))
SourceSays sources at None fault = IsFirstUnopened sources at fault
SourceSays sources at (Some slot) (store.Beyond entry got) = (bundles : List (List ℕ))
    × (AreTaken sources bundles × IsFirstBeyond bundles at slot entry got)
SourceSays sources at (Some slot) _ = ⊥

-- why the target refuses: as it is opened, or since it is not empty
abbrev pub TargetFault : Files → StoreFault → Type 0
TargetFault target (store.NotEmpty len) = (left : List ℕ) × (OpensAs target left
    × ((len ≡ length left) × (0 < len)))
TargetFault target fault = OpeningFault target fault

-- What each answer says, beside want of memory: that what comes before it in the order does not
-- hold, and that it holds.
abbrev pub PackSays : List Files → Files → Result PackReport PackFault → Type 0
PackSays sources target (Ok report) = (bundles : List (List ℕ)) × (AreRead sources bundles
    × (OpensAs target [] × ((report.tiles ≡ filled (merged_tiles bundles) slot_count)
    × (report.length ≡ length (layout (merged_tiles bundles))))))
PackSays sources target (Err (Source at slot fault)) = SourceSays sources at slot fault
PackSays sources target (Err (KeptTooMuch len)) = (bundles : List (List ℕ))
    × (AreOpened sources bundles
    × ((len ≡ chosen_bytes bundles slot_count) × (most_bytes < len)))
PackSays sources target (Err (Target fault)) = ((bundles : List (List ℕ)) × AreRead sources bundles)
    × TargetFault target fault
PackSays sources target (Err OutOfMemory) = Unit {0}

-- each image stands for a map that an image of the other disk stood for, or for this map
abbrev pub EachKeptOr : TileMap → Disk → Disk → Type 0
EachKeptOr after old now = (b j : List ℕ) → IsImage now.bundle b → IsImage now.journal j
    → StandsForOneOf old b j ⊎ StandsFor b j after

-- The target, at each moment: each image stands for a map that an image of the start stood for;
-- or, from a target that recovers to an empty file, for that or the merged tiles of the sources.
abbrev pub TargetKeeps : List Files → Files → History → History → Type 0
TargetKeeps sources target old new =
    During (EachStandsForOneOf (current old)) old new
    ⊎ ((bundles : List (List ℕ)) × (AreRead sources bundles × (OpensAs target []
    × During (EachKeptOr (merged_tiles bundles) (current old)) old new)))

-- once packed, the target holds the merged tiles of the sources and no slack
abbrev pub HoldsMerged : List Files → Disk → Type 0
HoldsMerged sources d = (bundles : List (List ℕ)) × (AreRead sources bundles
    × HoldsClosed (layout (merged_tiles bundles)) d)

-- the same of sources that stand for these maps, and how much that is
abbrev pub PacksMaps : List TileMap → Result PackReport PackFault → Disk → Type 0
PacksMaps maps (Ok report) d = HoldsClosed (layout (merged maps)) d
    × ((report.tiles ≡ filled (merged maps) slot_count)
    × (report.length ≡ length (layout (merged maps))))
PacksMaps maps (Err fault) d = Unit {0}

-- Why sound sources and a sound target are refused: a volume or memory fails, there is too much, or
-- the target is not empty.
abbrev pub IsOfSound : PackFault → Type 0
IsOfSound (Source at None store.Device) = Unit {0}
IsOfSound (Target store.Device) = Unit {0}
IsOfSound (Target (store.NotEmpty len)) = Unit {0}
IsOfSound (KeptTooMuch len) = Unit {0}
IsOfSound OutOfMemory = Unit {0}
IsOfSound _ = ⊥

-- the answers before which the target is not begun
abbrev pub IsOfSources : Result PackReport PackFault → Type 0
IsOfSources (Err (Source at slot fault)) = Unit {0}
IsOfSources (Err (KeptTooMuch len)) = Unit {0}
IsOfSources _ = ⊥

-- where the target was not packed, nor failed
abbrev pub OnUnpacked : Result PackReport PackFault → Type 0 → Type 0
OnUnpacked (Ok report) P = Unit {0}
OnUnpacked (Err (Target fault)) P = OnCause fault P
OnUnpacked (Err fault) P = P

-- where the target refused, and did not fail
abbrev pub OnTarget : Result PackReport PackFault → Type 0 → Type 0
OnTarget (Err (Target fault)) P = OnCause fault P
OnTarget _ P = Unit {0}

-- The answers that depend on more than the files: a volume failed, or memory was refused.
abbrev pub IsFree : Result PackReport PackFault → Type 0
IsFree (Err (Source at slot store.Device)) = Unit {0}
IsFree (Err (Target store.Device)) = Unit {0}
IsFree (Err OutOfMemory) = Unit {0}
IsFree _ = ⊥
