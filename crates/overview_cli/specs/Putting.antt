-- What putting the updates into the second bundle comes to, and what it leaves of it.
use Rattle.std.specs.Prelude.{◌≡◌, ℕ, ◌<◌, ◌≤◌, List, [], length, take, Option, IsTrue, OnOk, Ok, Err}
use Rattle.outside_io.specs.declared.volume.VolFile.TheVariants.{Bundle, Journal}
use Rattle.outside_io.specs.streams.Faults.{IsCause}
use Rattle.outside_io.specs.volume.Disk.{Disk, IsQuiet}
use Rattle.outside_io.specs.volume.History.{History, contents, current}
use Rattle.bundle_store.specs.declared.tile_rec.TileRec.{TileRec}
use Rattle.bundle_store.specs.Build.{map_after}
use Rattle.bundle_store.specs.Images.{EachImage, StandsFor}
use Rattle.bundle_store.specs.Starts.{KeepsStart}
use Rattle.bundle_store.specs.Tiles.{TileMap}
use Rattle.bundle_lines.specs.Lines.{put_lines}
use Rattle.bundle_lines.specs.Puts.{AreMarks, AreWhole, HaveRoom, IsFirstFull, LeavesNoRoom, PutsKeepFrom, bundle_after_puts}
use Rattle.opened_bundle.specs.Files.{Files, OfBundle}
use Rattle.opened_bundle.specs.Left.{IsLeft, IsReady, IsShut}
use Rattle.opened_bundle.specs.Refusals.{IsOpening}
use Rattle.opened_bundle.specs.declared.refusal.StoreRefusal.{StoreRefusal}
use Rattle.opened_bundle.specs.declared.refusal.StoreRefusal.TheVariants.{BadJournal, Full}
use Rattle.program_ends.specs.Moves.{SinkMove, VolumeMove}
use Rattle.program_ends.specs.Stop.{Gained}
use Rattle.program_ends.specs.declared.stop.Stop.TheVariants.{Output, Volume, OutOfMemory, Refused}
use Rattle.overview_cli.specs.Names.{End}
use Rattle.overview_cli.specs.declared.refusal.Refusal.TheVariants.{Store}

-- There is no room for update number n, as it is put, and there is for those before it. Over a
-- volume that tells nothing, the kept length leaves no room for that one or a later one.
abbrev pub IsFull : List TileRec → Option Files → ℕ → ℕ → Type 0
IsFull updates files n len = (n < length updates) × LeavesNoRoom len updates n
    × OfBundle files (λ bundle. IsFirstFull bundle updates n len)

-- Why the second bundle does not take the updates: the refusal of its recovery or of its opening,
-- or there is no room for one of them.
abbrev pub IsToRefusal : List TileRec → Option Files → StoreRefusal → Type 0
IsToRefusal updates files (Full len) = (n : ℕ) × IsFull updates files n len
IsToRefusal updates files refusal = IsOpening files refusal

-- How putting these updates ends, of which n are then done, and what it has meant to give by then.
abbrev pub PutsAnswer : List TileRec → Option Files → ℕ → End → List ℕ → Type 0
PutsAnswer updates files n (Ok x) output = (n ≡ length updates)
    × OfBundle files (λ bundle. HaveRoom bundle updates n) × (output ≡ put_lines updates)
PutsAnswer updates files n (Err Output) output =
    (n ≤ length updates) × (output ≡ put_lines (take n updates))
PutsAnswer updates files n (Err Volume) output =
    (n ≤ length updates) × (output ≡ put_lines (take n updates))
PutsAnswer updates files n (Err OutOfMemory) output = (n ≡ 0) × (output ≡ [])
PutsAnswer updates files n (Err (Refused (Store (Full len)))) output =
    IsFull updates files n len × (output ≡ put_lines (take n updates))
PutsAnswer updates files n (Err (Refused (Store refusal))) output =
    IsOpening files refusal × (n ≡ 0) × (output ≡ [])
PutsAnswer updates files n (Err _) output = ⊥

-- the second bundle was not opened, and its volume did not fail
abbrev pub StopsUnopened : End → Type 0
StopsUnopened (Err OutOfMemory) = Unit {0}
StopsUnopened (Err (Refused (Store (Full len)))) = ⊥
StopsUnopened (Err (Refused refusal)) = Unit {0}
StopsUnopened end = ⊥

-- what the output has gained
pub record OfOutput (updates : List TileRec) (files : Option Files) (n : ℕ) (end : End)
    (out : SinkMove) : Type 0 where
  pub cause : IsCause (end ≡ Err Output) out.faults.old out.faults.new
  pub gave : (output : List ℕ)
      × (PutsAnswer updates files n end output × Gained end out.held output)
  pub idle : StopsUnopened end → out.same

-- unless the volume failed
abbrev pub UnlessVolume : End → Type 0 → Type 0
UnlessVolume (Err Volume) P = Unit {0}
UnlessVolume end P = P

-- What stands behind an end: a crash leaves what is read, and the journal is not open; where a test
-- of the journal failed, it reads as it did.
abbrev pub Rests : End → List ℕ → Disk → Type 0
Rests (Err Volume) journal d = Unit {0}
Rests (Err (Refused (Store (BadJournal place found)))) journal d =
    IsQuiet d × (d.journal.now ≡ journal)
Rests end journal d = IsShut d

-- At each moment each image that a crash may leave is sound, and stands for a map that one stood
-- for at the start, while no update has a mark; or for the tiles that were read at the start with
-- the first few updates done: those with a mark by then, or also the next group of up to 64, whole.
abbrev pub KeepsPuts : List TileRec → List ℕ → TileMap → History → History → Type 0
KeepsPuts updates marks start old new = (bundle : List ℕ)
    × (IsLeft (contents Bundle old) (contents Journal old) bundle
    × AreWhole bundle updates marks × PutsKeepFrom bundle start updates marks old new)

-- what is left of the volume that is put into
pub record OfPuts (updates : List TileRec) (end : End) (marks : List ℕ) (vol : VolumeMove) : Type 0
  where
    pub cause : IsCause (end ≡ Err Volume) vol.faults.old vol.faults.new
    pub told : vol.told.new ≡ vol.told.old
    pub few : length marks ≤ length updates
    pub marks_are : IsTrue vol.told.old
        → AreMarks marks vol.history.old.moment vol.history.new.moment
    pub reads : IsTrue vol.told.old → UnlessVolume end ((bundle : List ℕ)
        × (IsLeft (contents Bundle vol.history.old) (contents Journal vol.history.old) bundle
        × (contents Bundle vol.history.new
        ≡ bundle_after_puts bundle (take (length marks) updates))))
    pub rests : IsTrue vol.told.old
        → Rests end (contents Journal vol.history.old) (current vol.history.new)
    pub tiles : (start : TileMap) → IsReady vol.told.old vol.history.old start
        → KeepsPuts updates marks start vol.history.old vol.history.new
    -- whatever was pending at the start
    pub done : IsTrue vol.told.old → (start : TileMap)
        → StandsFor (contents Bundle vol.history.old) (contents Journal vol.history.old) start
        → OnOk end (EachImage (λ map. map ≡ map_after start (take (length marks) updates))
        (current vol.history.new))
    -- no update is done where the bundle was not opened
    pub none : StopsUnopened end → (start : TileMap)
        → IsReady vol.told.old vol.history.old start
        → KeepsStart vol.history.old vol.history.new
