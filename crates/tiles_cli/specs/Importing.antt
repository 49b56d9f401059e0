-- What an import leaves.
use Rattle.std.specs.Prelude.{◌≡◌, ◌⊎◌, ℕ, ◌≤◌, List, length, take, IsTrue, OnOk, Err}
use Rattle.outside_io.specs.declared.volume.VolFile.TheVariants.{Bundle, Journal}
use Rattle.outside_io.specs.streams.Faults.{IsCause}
use Rattle.outside_io.specs.volume.History.{History, contents, current}
use Rattle.bundle_store.specs.declared.tile_rec.TileRec.{TileRec}
use Rattle.bundle_store.specs.Build.{map_after}
use Rattle.bundle_store.specs.Images.{EachImage, StandsFor}
use Rattle.bundle_store.specs.Starts.{EachIsSound, KeepsStart}
use Rattle.bundle_store.specs.Tiles.{TileMap}
use Rattle.bundle_lines.specs.Gave.{PutGave}
use Rattle.bundle_lines.specs.Puts.{AreMarks, AreWhole, EndsByRoom, KeepsFullLength, PutsKeepFrom, bundle_after_puts}
use Rattle.bundle_tiles.specs.Imported.{ImportEnd, InWholeGroups, ReadsStream, puts_end_of}
use Rattle.opened_bundle.specs.Left.{IsLeft, IsReady}
use Rattle.program_ends.specs.Moves.{SinkMove, SourceMove, VolumeMove}
use Rattle.program_ends.specs.declared.stop.Stop.TheVariants.{Output, Source, Volume}
use Rattle.tiles_cli.specs.Exporting.{IsUnopened, Rests}
use Rattle.tiles_cli.specs.Names.{End, import_end_of}

-- At each moment each image that a crash may leave is sound, and stands for a map that one stood
-- for at the start, while none of these tiles has a mark; or for the tiles that were read at the
-- start with the first few of these done: those with a mark by then, or also the next group of up
-- to 64, whole.
abbrev pub KeepsPuts : List TileRec → List ℕ → TileMap → History → History → Type 0
KeepsPuts tiles marks start old new = (bundle : List ℕ)
    × (IsLeft (contents Bundle old) (contents Journal old) bundle
    × AreWhole bundle tiles marks × PutsKeepFrom bundle start tiles marks old new)

-- unless the volume failed
abbrev pub UnlessVolume : End → Type 0 → Type 0
UnlessVolume (Err Volume) P = Unit {0}
UnlessVolume end P = P

-- The tiles that were read in whole groups were put into the bundle that the recovery leaves: those
-- that have a mark, whose lines were given.
pub record PutsRead (end : End) (src : SourceMove) (vol : VolumeMove) (out : SinkMove)
    : Type 0 where
  pub answer : ImportEnd
  pub end_is : end ≡ import_end_of answer
  pub tiles : List TileRec
  pub marks : List ℕ
  pub reads : ReadsStream answer src.left.old tiles
  pub groups : InWholeGroups answer (length tiles)
  pub gave : PutGave (puts_end_of answer) tiles (length marks) out.held.old out.held.new
  pub full : KeepsFullLength (puts_end_of answer) tiles (length marks)
  pub few : length marks ≤ length tiles
  pub marks_are : IsTrue vol.told.old
      → AreMarks marks vol.history.old.moment vol.history.new.moment
  pub holds : IsTrue vol.told.old → (bundle : List ℕ)
      × (IsLeft (contents Bundle vol.history.old) (contents Journal vol.history.old) bundle
      × EndsByRoom (puts_end_of answer) bundle tiles (length marks)
      × UnlessVolume end (contents Bundle vol.history.new
      ≡ bundle_after_puts bundle (take (length marks) tiles)))
  -- whatever was pending at the start
  pub done : IsTrue vol.told.old → (start : TileMap)
      → StandsFor (contents Bundle vol.history.old) (contents Journal vol.history.old) start
      → OnOk end (EachImage (λ map. map ≡ map_after start (take (length marks) tiles))
      (current vol.history.new))
  pub keeps : (start : TileMap) → IsReady vol.told.old vol.history.old start
      → KeepsPuts tiles marks start vol.history.old vol.history.new

-- The bundle was not opened, and each image stands for tiles that one stood for at the start;
-- nothing of the source was taken.
pub record IsUnimported (end : End) (src : SourceMove) (vol : VolumeMove) (out : SinkMove)
    : Type 0 where
  pub unopened : IsUnopened end vol out
  pub unread : src.same
  pub keeps : IsTrue vol.told.old → EachIsSound (current vol.history.old)
      → KeepsStart vol.history.old vol.history.new

-- what an import leaves
pub record OfImport (end : End) (src : SourceMove) (vol : VolumeMove) (out : SinkMove)
    : Type 0 where
  pub source : IsCause (end ≡ Err Source) src.faults.old src.faults.new
  pub output : IsCause (end ≡ Err Output) out.faults.old out.faults.new
  pub volume : IsCause (end ≡ Err Volume) vol.faults.old vol.faults.new
  pub told : vol.told.new ≡ vol.told.old
  pub rests : IsTrue vol.told.old
      → Rests end (contents Journal vol.history.old) (current vol.history.new)
  pub ends : IsUnimported end src vol out ⊎ PutsRead end src vol out
