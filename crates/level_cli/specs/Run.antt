-- What a run leaves of the objects that it is lent, whatever it answers.
use Rattle.std.specs.Prelude.{◌≡◌, ◌⊎◌, ℕ, ◌≤◌, ◌<◌, List, length, Bool, IsTrue, Option, Result, Ok, Err, IfErr, OnOk}
use Rattle.outside_io.specs.streams.Faults.{FailedBetween}
use Rattle.outside_io.specs.streams.Sink.{Holds, HoldsPrefix}
use Rattle.outside_io.specs.program.Line.{GivesLine}
use Rattle.outside_io.specs.volume.History.{History}
use Rattle.program_ends.specs.Moves.{Change, SinkMove, SourceMove}
use Rattle.program_ends.specs.declared.stop.Stop.TheVariants.{Output, OutOfMemory}
use Rattle.lerc_header.specs.declared.header.Version.{Version}
use Rattle.grid_blobs.specs.declared.stop.InputStop.{InputStop}
use Rattle.grid_blobs.specs.Blobs.{AreBlobsOf}
use Rattle.grid_blobs.specs.Stops.{IsStopOf}
use Rattle.level_cache.specs.declared.level.LevelFault.{LevelFault}
use Rattle.level_cache.specs.Calls.{GetRefusal, GetsFrom, Lends, LevelMoves, OnStore, PutRefusal, PutsIn}
use Rattle.level_cache.specs.Names.{IsName}
use Rattle.level_cache.specs.Places.{Corner, base_of, slot_of}
use Rattle.level_cli.specs.declared.words.Command.{Command}
use Rattle.level_cli.specs.declared.words.Command.TheVariants.{Put, Get, Name}
use Rattle.level_cli.specs.Names.{End, GivesLineOf, input_stop_of, level_stop_of, line_of, name_line, put_line, status_at}

-- ---- the shelf

-- Of a shelf: whether it is as it was, whether it tells its volumes, which no call changes, and the
-- volume of each base that has one.
pub record ShelfMove (V : Type 0) : Type 1 where
  pub same : Type 0
  pub told : Bool
  pub volumes : Change (Corner → Option V)

abbrev pub shelf_move : {X V : Type 0} → (X → Bool) → (X → Corner → Option V) → X → X → ShelfMove V
shelf_move {X} {V} told volumes old new = record {
  same = new ≡ old;
  told = told old;
  volumes = record { old = volumes old; new = volumes new };
}

-- The count of its volumes' faults rises only where the volume failed, and that is told unless the
-- shelf itself failed.
pub record IsVolumeCause (failed shelf : Type 0) (old new : ℕ) : Type 0 where
  pub counts : old ≤ new
  pub cause : failed → FailedBetween old new
  pub rose : old < new → failed ⊎ shelf

-- ---- the output

-- The output has gained these bytes, or it failed and has gained a prefix of them.
abbrev pub GaveBehind : End → SinkMove → List ℕ → Type 0
GaveBehind (Ok u) out bytes = Holds out.held.old out.held.new bytes
GaveBehind (Err Output) out bytes = HoldsPrefix out.held.old out.held.new bytes
GaveBehind (Err stop) out bytes = ⊥

-- ---- `put`

-- how a put ends behind what the level answers
abbrev pub PutEnds : Corner → List ℕ → Result (Unit {0}) LevelFault → End → SinkMove → Type 0
PutEnds place tile (Ok u) end out = GaveBehind end out (put_line place (length tile))
PutEnds place tile (Err fault) end out = (end ≡ Err (level_stop_of place fault)) × out.same

-- The tile was handed to the level, which answers this of the place's volume. The numbers of a
-- refusal fail the test that they name, and an Ok comes only of a tile of a lawful size.
pub record PutsAt {V : Type 0} (told : V → Bool) (history : V → History) (faults : V → ℕ)
    (place : Corner) (tile : List ℕ) (end : End) (out : SinkMove) (shelf : ShelfMove V) : Type 0
  where
    pub answer : Result (Unit {0}) LevelFault
    pub moves : IsTrue shelf.told → LevelMoves answer (base_of place) shelf.volumes.old
        shelf.volumes.new (Lends told history faults
        (λ r old new. PutsIn r (slot_of place) tile old new))
    pub fails : IfErr answer (λ fault. OnStore (PutRefusal (length tile)) fault)
    pub fits : OnOk answer ((0 < length tile) × (length tile ≤ 16777215))
    pub ends : PutEnds place tile answer end out

-- no blobs were made
abbrev pub StopsBefore : Version → Option (List ℕ) → End → Type 0
StopsBefore version input end =
    (why : InputStop) × (IsStopOf version input why × (end ≡ Err (input_stop_of why)))

-- The input is refused before the shelf is asked, or its blobs are put at the place.
abbrev pub OfPut : {V : Type 0} → (V → Bool) → (V → History) → (V → ℕ) → Version → ℕ → Corner
    → Option (List ℕ) → End → SinkMove → ShelfMove V → Type 0
OfPut {V} told history faults version error place input end out shelf =
    (StopsBefore version input end × (out.same × shelf.same))
    ⊎ ((tile : List ℕ) × (AreBlobsOf version error input tile
    × PutsAt told history faults place tile end out shelf))

-- ---- `get`

-- how a get ends behind what the level answers
abbrev pub GetEnds : Corner → Result (List ℕ) LevelFault → End → SinkMove → Type 0
GetEnds place (Ok tile) end out = GaveBehind end out tile
GetEnds place (Err fault) end out = (end ≡ Err (level_stop_of place fault)) × out.same

-- The level was asked for the place's tile, and answers this of its volume, likewise.
pub record OfGet {V : Type 0} (told : V → Bool) (history : V → History) (faults : V → ℕ)
    (place : Corner) (end : End) (out : SinkMove) (shelf : ShelfMove V) : Type 0 where
  pub answer : Result (List ℕ) LevelFault
  pub moves : IsTrue shelf.told → LevelMoves answer (base_of place) shelf.volumes.old
      shelf.volumes.new (Lends told history faults
      (λ r old new. GetsFrom r (slot_of place) old new))
  pub fails : IfErr answer (λ fault. OnStore GetRefusal fault)
  pub ends : GetEnds place answer end out

-- ---- `name`

abbrev pub OfName : Corner → End → SinkMove → Type 0
OfName place end out =
    (name : List ℕ) × (IsName (base_of place) name × GaveBehind end out (name_line name))

-- ---- all of it

abbrev pub OfCommand : {V : Type 0} → (V → Bool) → (V → History) → (V → ℕ) → Command → End
    → SourceMove → SinkMove → ShelfMove V → Type 0
OfCommand {V} told history faults (Put version error place) end src out shelf =
    OfPut told history faults version error place src.left.old end out shelf
OfCommand {V} told history faults (Get place) end src out shelf =
    src.same × OfGet told history faults place end out shelf
OfCommand {V} told history faults (Name place) end src out shelf =
    (src.same × shelf.same) × OfName place end out

-- What a run of a command leaves, and what it ends with: it ends in one way, which says the rest.
pub record OfRun {V : Type 0} (told : V → Bool) (history : V → History) (faults : V → ℕ)
    (c : Command) (status : ℕ) (src : SourceMove) (out : SinkMove) (shelf : ShelfMove V)
    (err : SinkMove) : Type 0 where
  pub end : End
  pub status_is : status ≡ status_at end
  pub did : OfCommand told history faults c end src out shelf
  pub line : GivesLineOf end err

-- Memory for the words was refused: the line of that is all that was given.
pub record IsUnread {V : Type 0} (status : ℕ) (src : SourceMove) (out : SinkMove)
    (shelf : ShelfMove V) (err : SinkMove) : Type 0 where
  pub status_is : status ≡ 6
  pub source : src.same
  pub output : out.same
  pub level : shelf.same
  pub line : GivesLine err.held.old err.held.new err.faults.old err.faults.new
      (line_of OutOfMemory)
