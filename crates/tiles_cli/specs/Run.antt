-- What a run leaves of the objects that it is lent, whatever it answers.
use Rattle.std.specs.Prelude.{◌≡◌, ℕ, List, length, take, Option}
use Rattle.outside_io.specs.program.Line.{GivesLine}
use Rattle.outside_io.specs.streams.Sink.{Holds, HoldsPrefix}
use Rattle.outside_io.specs.volume.History.{History, current}
use Rattle.bundle_store.specs.declared.tile_rec.TileRec.{TileRec}
use Rattle.bundle_store.specs.Build.{map_after}
use Rattle.bundle_store.specs.Images.{EachImage}
use Rattle.bundle_store.specs.Tiles.{TileMap}
use Rattle.bundle_lines.specs.Lines.{put_lines}
use Rattle.bundle_lines.specs.Puts.{AreMarks}
use Rattle.bundle_tiles.specs.Exported.{IsStreamOf}
use Rattle.bundle_tiles.specs.Imported.{StartsWith}
use Rattle.bundle_tiles.specs.RawStream.{IsRawStream}
use Rattle.opened_bundle.specs.Left.{IsShut}
use Rattle.program_ends.specs.Moves.{SinkMove, SourceMove, VolumeMove}
use Rattle.program_ends.specs.declared.stop.Stop.TheVariants.{OutOfMemory}
use Rattle.tiles_cli.specs.Exporting.{OfAll, OfListed}
use Rattle.tiles_cli.specs.Importing.{KeepsPuts, OfImport}
use Rattle.tiles_cli.specs.Names.{End, GivesLineOf, line_of, status_at}
use Rattle.tiles_cli.specs.declared.words.Command.{Command}
use Rattle.tiles_cli.specs.declared.words.Command.TheVariants.{Export, Listed, Import}

-- what each command leaves; `export` takes nothing of the source
abbrev pub OfCommand : Command → End → SourceMove → VolumeMove → SinkMove → Type 0
OfCommand Export end src vol out = src.same × OfAll end vol out
OfCommand Listed end src vol out = OfListed end src vol out
OfCommand Import end src vol out = OfImport end src vol out

-- and the run
pub record OfRun (c : Command) (status : ℕ) (src : SourceMove) (vol : VolumeMove)
    (out err : SinkMove) : Type 0 where
  pub end : End
  pub status_is : status ≡ status_at end
  pub command : OfCommand c end src vol out
  pub line : GivesLineOf end err

-- Memory for the words was refused: the line of that is all that was given.
pub record IsUnread (status : ℕ) (src : SourceMove) (vol : VolumeMove) (out err : SinkMove)
    : Type 0 where
  pub status_is : status ≡ 6
  pub source : src.same
  pub volume : vol.same
  pub output : out.same
  pub line : GivesLine err.held.old err.held.new err.faults.old err.faults.new
      (line_of OutOfMemory)

-- ---- in the words of the tiles

-- The output has gained the stream of the tiles that the files stood for at the start.
abbrev pub GaveStream : TileMap → SinkMove → Type 0
GaveStream start out =
    (bytes : List ℕ) × (IsStreamOf bytes start × Holds out.held.old out.held.new bytes)

-- The source was a stream, and each image stands for the tiles of the start with those of it put in
-- their order; the output has their lines. Nothing is pending, and the journal is not open.
pub record ImportedAll (bytes : List ℕ) (start : TileMap) (vol : VolumeMove) (out : SinkMove)
    : Type 0 where
  pub tiles : List TileRec
  pub stream : IsRawStream bytes tiles
  pub lines : Holds out.held.old out.held.new (put_lines tiles)
  pub stands : EachImage (λ map. map ≡ map_after start tiles) (current vol.history.new)
  pub shut : IsShut (current vol.history.new)

-- At each moment of an import each image stands for tiles that one stood for at the start, while no
-- tile has a mark; or for those that were read there with the first few tiles done that the source
-- begins with: those with a mark by then, or also the next group of up to 64, whole. The lines that were given are of tiles with a mark, and no mark is later than the return.
pub record KeepsImport (bytes : List ℕ) (start : TileMap) (old new : History)
    (held_old held_new : Option (List ℕ)) : Type 0 where
  pub tiles : List TileRec
  pub marks : List ℕ
  pub read : StartsWith bytes tiles
  pub kept : KeepsPuts tiles marks start old new
  pub marks_are : AreMarks marks old.moment new.moment
  pub lines : HoldsPrefix held_old held_new (put_lines (take (length marks) tiles))
