-- What a run leaves of the objects that it is lent, whatever it answers.
use Rattle.std.specs.Prelude.{◌≡◌, ◌⊎◌, ℕ, ◌<◌, ◌≤◌, List, [], length, Option, IsTrue, Ok, Err}
use Rattle.outside_io.specs.program.Line.{GivesLine}
use Rattle.outside_io.specs.streams.Faults.{FailedBetween}
use Rattle.outside_io.specs.streams.Sink.{Holds}
use Rattle.outside_io.specs.declared.volume.VolFile.TheVariants.{Bundle, Journal}
use Rattle.outside_io.specs.volume.Disk.{Disk}
use Rattle.outside_io.specs.volume.History.{History, contents, current}
use Rattle.bundle_store.specs.declared.tile_rec.TileRec.{TileRec}
use Rattle.bundle_store.specs.Build.{map_after}
use Rattle.bundle_store.specs.Images.{EachImage, StandsFor}
use Rattle.bundle_store.specs.Starts.{KeepsStart}
use Rattle.bundle_store.specs.Tiles.{TileMap}
use Rattle.bundle_lines.specs.Lines.{put_lines}
use Rattle.opened_bundle.specs.Files.{Files, files_of}
use Rattle.opened_bundle.specs.Left.{IsShut, OfReading}
use Rattle.opened_bundle.specs.declared.refusal.StoreRefusal.{StoreRefusal}
use Rattle.program_ends.specs.Moves.{Change, SinkMove, VolumeMove}
use Rattle.program_ends.specs.declared.stop.Stop.TheVariants.{OutOfMemory, Refused, Volume}
use Rattle.overview_cli.specs.Names.{End, GivesLineOf, line_of, status_at}
use Rattle.overview_cli.specs.Putting.{IsToRefusal, KeepsPuts, OfOutput, OfPuts, Rests}
use Rattle.overview_cli.specs.Taking.{IsFromRefusal, NearOf, Taken, TakesOverview, UpdatesOf}
use Rattle.overview_cli.specs.declared.refusal.Refusal.{Refusal}
use Rattle.overview_cli.specs.declared.refusal.Refusal.TheVariants.{Store}
use Rattle.overview_cli.specs.declared.words.Command.{Command}

-- ---- causes

-- One of the two volumes failed, and nothing else is the cause of P.
pub record IsVolumeCause (P : Type 0) (from to : Change ℕ) : Type 0 where
  pub from_counts : from.old ≤ from.new
  pub to_counts : to.old ≤ to.new
  pub failed : P → FailedBetween from.old from.new ⊎ FailedBetween to.old to.new
  pub from_rose : from.old < from.new → P
  pub to_rose : to.old < to.new → P

-- ---- what is left of each object

-- the files of a volume as the run begins
abbrev pub files_at : VolumeMove → Option Files
files_at vol = files_of vol.told.old vol.history.old

-- Where the first bundle has no updates, the run ends with that, and the output and the second
-- bundle are as they were.
abbrev pub Ends : Taken → End → List ℕ → VolumeMove → SinkMove → Type 0
Ends (Ok updates) end marks to out = OfPuts updates.items end marks to
    × OfOutput updates.items (files_at to) (length marks) end out
Ends (Err stop) end marks to out = (end ≡ Err stop) × ((marks ≡ []) × (to.same × out.same))

-- What stands behind reading the first bundle: a crash leaves what is read, and its journal is not
-- open; where a test of the journal failed, it reads as it did.
abbrev pub RestsTaken : Taken → List ℕ → Disk → Type 0
RestsTaken (Ok updates) journal d = IsShut d
RestsTaken (Err stop) journal d = Rests (Err stop) journal d

-- what the command leaves
pub record OfCommand (c : Command) (end : End) (marks : List ℕ) (from to : VolumeMove)
    (out : SinkMove) : Type 0 where
  pub taken : Taken
  pub takes : TakesOverview c (files_at from) taken
  pub reading : OfReading (taken ≡ Err Volume) from
  pub from_rests : IsTrue from.told.old
      → RestsTaken taken (contents Journal from.history.old) (current from.history.new)
  pub ends : Ends taken end marks to out

-- and the run
pub record OfRun (c : Command) (status : ℕ) (marks : List ℕ) (from to : VolumeMove)
    (out err : SinkMove) : Type 0 where
  pub end : End
  pub status_is : status ≡ status_at end
  pub command : OfCommand c end marks from to out
  pub line : GivesLineOf end err

-- Memory for the words was refused: the line of that is all that was given.
pub record IsUnread (status : ℕ) (from to : VolumeMove) (out err : SinkMove) : Type 0 where
  pub status_is : status ≡ 6
  pub from_same : from.same
  pub to_same : to.same
  pub output : out.same
  pub line : GivesLine err.held.old err.held.new err.faults.old err.faults.new
      (line_of OutOfMemory)

-- ---- refusals

-- Why there is nothing to put, or it is not put: the first refusal of the first bundle, or behind
-- the updates of its overview that of the second.
abbrev pub Refuses : Command → Option Files → Option Files → Refusal → Type 0
Refuses c from to refusal = IsFromRefusal c from (Refused refusal)
    ⊎ ((updates : List TileRec) × (UpdatesOf c from updates
    × ((why : StoreRefusal) × ((refusal ≡ Store why) × IsToRefusal updates to why))))

-- ---- in the words of the tiles

-- The updates of the overview were put. Each is near its coarse tile, and has a mark and its line.
-- Where what was read at the start stood for some tiles, whatever was pending, each image stands
-- for these with all updates done.
pub record PutsOverview (c : Command) (marks : List ℕ) (from to : VolumeMove) (out : SinkMove)
    : Type 0 where
  pub updates : List TileRec
  pub of : UpdatesOf c (files_at from) updates
  pub near : NearOf c (files_at from) updates
  pub all : length marks ≡ length updates
  pub lines : Holds out.held.old out.held.new (put_lines updates)
  pub stands : IsTrue to.told.old → (start : TileMap)
      → StandsFor (contents Bundle to.history.old) (contents Journal to.history.old) start
      → EachImage (λ map. map ≡ map_after start updates) (current to.history.new)
  pub shut : IsTrue to.told.old → IsShut (current to.history.new)

-- At each moment each image of the second bundle stands for a map that one stood for at the start,
-- and there is no mark; or it keeps these with the first few of the updates of the overview done.
abbrev pub KeepsOverview : Command → Option Files → List ℕ → TileMap → History → History → Type 0
KeepsOverview c files marks start old new = ((marks ≡ []) × KeepsStart old new)
    ⊎ ((updates : List TileRec)
    × (UpdatesOf c files updates × KeepsPuts updates marks start old new))
