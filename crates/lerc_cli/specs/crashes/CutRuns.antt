-- Runs that kills and crashes cut off, each begun on what was handed on of the one before.
use Rattle.std.specs.Prelude.{◌≡◌, ℕ, ◌≤◌, List, [], ◌∷◌, take, Bool, IsTrue}
use Rattle.outside_io.specs.volume.Disk.{Disk}
use Rattle.outside_io.specs.volume.History.{History, IsPresent, current}
use Rattle.bundle_store.specs.declared.tile_rec.TileRec.{TileRec}
use Rattle.bundle_store.specs.Build.{map_after}
use Rattle.bundle_store.specs.Images.{EachImage}
use Rattle.bundle_store.specs.Starts.{CouldBe, Cut, EachIsSound, IsCutOf}
use Rattle.bundle_store.specs.Tiles.{TileMap}
use Rattle.bundle_lines.specs.Puts.{marked}
use Rattle.lerc_cli.specs.declared.words.Command.{Command}
use Rattle.lerc_cli.specs.inputs.Given.{Given}
use Rattle.lerc_cli.specs.answers.Names.{End}
use Rattle.lerc_cli.specs.crashes.Kept.{KeepsUpdates}
use Rattle.lerc_cli.specs.crashes.Phase.{UpdatesAt}

-- A run of a command with its volume's history, and how it was cut off: by what, at which moment,
-- and what that handed on of both files. A run that returned may be cut off at its last moment.
pub record CutRun : Type 0 where
  pub command : Command
  pub given : Given
  pub end : End
  pub marks : List ℕ
  pub told : Bool
  pub old : History
  pub new : History
  pub moment : ℕ
  pub cut : Cut
  pub left : Disk

-- The run began on this disk, of which what is read is an image, as of each volume that tells its
-- files, and has kept its tiles, which `run` promises. It was cut off at a moment from its start to
-- its return.
pub record IsCutRun (first : Disk) (r : CutRun) : Type 0 where
  pub tells : IsTrue r.told
  pub begins : current r.old ≡ first
  pub present : IsPresent r.old
  pub kept : KeepsUpdates r.command r.given r.end r.marks r.told r.old r.new
  pub from : r.old.moment ≤ r.moment
  pub to : r.moment ≤ r.new.moment
  pub left : IsCutOf r.cut (r.new.disk_at r.moment) r.left

-- the first run began on this disk, and each other one on what was handed on of the one before
abbrev pub AreCutRuns : Disk → List CutRun → Type 0
AreCutRuns first [] = Unit {0}
AreCutRuns first (r ∷ rs) = IsCutRun first r × AreCutRuns r.left rs

-- what was handed on of the last
abbrev pub left_by : Disk → List CutRun → Disk
left_by first [] = first
left_by first (r ∷ rs) = left_by r.left rs

-- The map at the start with the first few updates of each run done, one run after the other: at
-- least those that had a mark by the moment at which it was cut off.
abbrev pub IsAfterRuns : TileMap → List CutRun → TileMap → Type 0
IsAfterRuns start [] map = map ≡ start
IsAfterRuns start (r ∷ rs) map = (updates : List TileRec)
    × (UpdatesAt r.command r.given r.end updates × ((count : ℕ)
    × ((marked r.marks r.moment ≤ count)
    × IsAfterRuns (map_after start (take count updates)) rs map)))

-- However many runs were cut off, by kills and crashes in any order: where each image of the first
-- disk is sound, each of the last stands for such a map, from one that an image stood for first.
abbrev pub SurvivesCuts : Type 0
SurvivesCuts = (first : Disk) (runs : List CutRun) → EachIsSound first → AreCutRuns first runs
    → EachImage (λ map. (start : TileMap)
    × (CouldBe first start × IsAfterRuns start runs map)) (left_by first runs)
