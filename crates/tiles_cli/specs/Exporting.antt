-- What the exports leave.
use Rattle.std.specs.Prelude.{◌≡◌, ◌⊎◌, ℕ, List, Option, IfSome, IsTrue, Err}
use Rattle.outside_io.specs.declared.volume.VolFile.TheVariants.{Bundle, Journal}
use Rattle.outside_io.specs.streams.Faults.{IsCause}
use Rattle.outside_io.specs.volume.Disk.{Disk, IsQuiet}
use Rattle.outside_io.specs.volume.History.{contents, current}
use Rattle.bundle_store.specs.Images.{StandsFor}
use Rattle.bundle_store.specs.Tiles.{TileMap, tiles}
use Rattle.bundle_tiles.specs.Exported.{ExportGave, slots_of}
use Rattle.opened_bundle.specs.Files.{Files, files_of}
use Rattle.opened_bundle.specs.Left.{IsShut, OfReading}
use Rattle.opened_bundle.specs.Opening.{OpeningStops}
use Rattle.opened_bundle.specs.declared.refusal.StoreRefusal.{StoreRefusal}
use Rattle.opened_bundle.specs.declared.refusal.StoreRefusal.TheVariants.{BadJournal}
use Rattle.program_ends.specs.Moves.{SinkMove, SourceMove, VolumeMove}
use Rattle.program_ends.specs.Stop.{End as EndOf}
use Rattle.program_ends.specs.declared.stop.Stop.{Stop}
use Rattle.program_ends.specs.declared.stop.Stop.TheVariants.{Output, Volume, Refused}
use Rattle.tiles_cli.specs.Names.{End, list_stop_of, store_end_of, with_store}
use Rattle.tiles_cli.specs.SlotList.{IsSlotList, TellsList}
use Rattle.tiles_cli.specs.declared.refusal.Refusal.TheVariants.{Store}
use Rattle.tiles_cli.specs.declared.slot_list.ListStop.{ListStop}

-- What stands behind an end: a crash leaves what is read, and the journal is not open; where a test
-- of the journal failed, it reads as it did. Of a volume that failed nothing is said.
abbrev pub Rests : End → List ℕ → Disk → Type 0
Rests (Err Volume) journal d = Unit {0}
Rests (Err (Refused (Store (BadJournal place found)))) journal d =
    IsQuiet d × (d.journal.now ≡ journal)
Rests end journal d = IsShut d

-- the files of a volume as the run begins
abbrev pub files_at : VolumeMove → Option Files
files_at vol = files_of vol.told.old vol.history.old

-- The bundle was not opened: the first refusal of its recovery or of its opening, or the volume
-- failed, or memory was refused. Nothing was given.
pub record IsUnopened (end : End) (vol : VolumeMove) (out : SinkMove) : Type 0 where
  pub stop : Stop StoreRefusal
  pub end_is : end ≡ Err (with_store stop)
  pub stops : OpeningStops (files_at vol) stop
  pub idle : out.same

-- The bundle that the recovery leaves was opened, and this is what was given of these slots. It
-- stands for the tiles that were read at the start, whatever was pending then.
pub record GivesSlots (slots : List ℕ) (end : End) (vol : VolumeMove) (out : SinkMove)
    : Type 0 where
  pub answer : EndOf StoreRefusal
  pub end_is : end ≡ store_end_of answer
  pub gave : ExportGave answer vol.told.old (contents Bundle vol.history.new) slots out.held.old
      out.held.new
  pub stands : IsTrue vol.told.old → (start : TileMap)
      → StandsFor (contents Bundle vol.history.old) (contents Journal vol.history.old) start
      → start ≡ tiles (contents Bundle vol.history.new)

-- What an export leaves. The bundle is recovered, and then only read; the slots are those that are
-- asked for, by what is told of the bundle.
pub record OfExport (Asks : List ℕ → Type 0) (end : End) (vol : VolumeMove) (out : SinkMove)
    : Type 0 where
  pub cause : IsCause (end ≡ Err Output) out.faults.old out.faults.new
  pub reading : OfReading (end ≡ Err Volume) vol
  pub rests : IsTrue vol.told.old
      → Rests end (contents Journal vol.history.old) (current vol.history.new)
  pub ends : IsUnopened end vol out
      ⊎ ((slots : List ℕ) × (Asks slots × GivesSlots slots end vol out))

-- an export of all tiles, by slot
abbrev pub OfAll : End → VolumeMove → SinkMove → Type 0
OfAll end vol out = OfExport (λ slots. IsTrue vol.told.old →
    slots ≡ slots_of (contents Bundle vol.history.new)) end vol out

-- The list was not read, and nothing else was done.
pub record IsUnlisted (end : End) (src : SourceMove) (vol : VolumeMove) (out : SinkMove)
    : Type 0 where
  pub stop : ListStop
  pub end_is : end ≡ Err (list_stop_of stop)
  pub tells : TellsList src.left.old stop
  pub idle : out.same
  pub unread : vol.same

-- an export of the slots of a list, in the order of its lines
abbrev pub OfListed : End → SourceMove → VolumeMove → SinkMove → Type 0
OfListed end src vol out = IsUnlisted end src vol out
    ⊎ OfExport (λ slots. IfSome src.left.old (λ text. IsSlotList text slots)) end vol out
