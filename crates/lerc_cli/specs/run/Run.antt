-- What a run leaves of the objects that it is lent, whatever it answers.
use Rattle.std.specs.Prelude.{◌≡◌, ℕ, ◌≤◌, List, [], length, replicate, Option, IsTrue, IsFalse, Ok, Err}
use Rattle.outside_io.specs.streams.Faults.{IsCause}
use Rattle.outside_io.specs.streams.Source.{TakesUpTo, IsAtEnd}
use Rattle.outside_io.specs.program.Line.{GivesLine}
use Rattle.raster_grids.specs.Taken.{TookSome}
use Rattle.bundle_lines.specs.Puts.{AreMarks}
use Rattle.program_ends.specs.Moves.{SinkMove, SourceMove, VolumeMove}
use Rattle.program_ends.specs.Stop.{Gained}
use Rattle.program_ends.specs.declared.stop.Stop.TheVariants.{Usage, Refused, Source, Output, Volume, OutOfMemory}
use Rattle.opened_bundle.specs.Files.{files_of}
use Rattle.lerc_cli.specs.declared.words.Command.{Command}
use Rattle.lerc_cli.specs.declared.words.Command.TheVariants.{Encode, Decode, Info, Build, Put, Get, GetRaw, List as ListAll, Check, Recover, Sample}
use Rattle.lerc_cli.specs.declared.refusal.Refusal.TheVariants.{Input}
use Rattle.lerc_cli.specs.words.Commands.{reads_source, makes_updates}
use Rattle.lerc_cli.specs.inputs.Given.{Given, given}
use Rattle.lerc_cli.specs.answers.Names.{End, GivesLineOf, line_of, status_at, status_of}
use Rattle.lerc_cli.specs.answers.Table.{Answers}
use Rattle.lerc_cli.specs.crashes.Kept.{KeepsUpdates}
use Rattle.lerc_cli.specs.crashes.Phase.{Phase, ComesTo, IsLeftIn}

-- ---- the source

-- What a command takes: some first bytes of those left. Of the blobs of bands it is at most one
-- byte more than the 16 longest ones have.
abbrev pub TakesFor : Command → Option (List ℕ) → Option (List ℕ) → Type 0
TakesFor (Encode version error) left_old left_new = TookSome left_old left_new
TakesFor Decode left_old left_new = TakesUpTo 2147483649 left_old left_new
TakesFor Info left_old left_new = TakesUpTo 2147483649 left_old left_new
TakesFor (Build version error workers) left_old left_new = TookSome left_old left_new
TakesFor (Put version error workers) left_old left_new = TookSome left_old left_new
TakesFor (Get slot) left_old left_new = left_new ≡ left_old
TakesFor (GetRaw slot) left_old left_new = left_new ≡ left_old
TakesFor ListAll left_old left_new = left_new ≡ left_old
TakesFor Check left_old left_new = left_new ≡ left_old
TakesFor Recover left_old left_new = left_new ≡ left_old
TakesFor (Sample start count) left_old left_new = left_new ≡ left_old

pub record OfSource (c : Command) (end : End) (src : SourceMove) : Type 0 where
  pub cause : IsCause (end ≡ Err Source) src.faults.old src.faults.new
  pub taken : TakesFor c src.left.old src.left.new
  pub whole : IsTrue (reads_source c) → end ≡ Ok tt → IsAtEnd src.left.new
  pub idle : IsFalse (reads_source c) → src.same

-- ---- the output

-- the run stopped before the output began
abbrev pub StopsBeforeOutput : End → Type 0
StopsBeforeOutput (Err Usage) = Unit {0}
StopsBeforeOutput (Err (Refused (Input fault))) = Unit {0}
StopsBeforeOutput (Err Source) = Unit {0}
StopsBeforeOutput (Err OutOfMemory) = Unit {0}
StopsBeforeOutput end = ⊥

-- What the output has gained: the bytes that the command answers with, where so many updates are
-- done, or where it failed a prefix of them.
pub record OfOutput (c : Command) (g : Given) (n : ℕ) (end : End) (out : SinkMove) : Type 0 where
  pub cause : IsCause (end ≡ Err Output) out.faults.old out.faults.new
  pub gave : (output : List ℕ) × (Answers c g n end output × Gained end out.held output)
  pub idle : StopsBeforeOutput end → out.same

-- ---- the volume

-- Each mark of a build is the moment of its end: its updates are done at once.
abbrev pub MarksAt : Command → List ℕ → ℕ → Type 0
MarksAt (Build version error workers) marks moment = marks ≡ replicate (length marks) moment
MarksAt c marks moment = Unit {0}

pub record OfVolume (c : Command) (g : Given) (end : End) (marks : List ℕ) (vol : VolumeMove)
    : Type 0 where
  pub cause : IsCause (end ≡ Err Volume) vol.faults.old vol.faults.new
  pub told : vol.told.new ≡ vol.told.old
  pub later : IsTrue vol.told.old → IsFalse (makes_updates c)
      → vol.history.old.moment ≤ vol.history.new.moment
  pub unmarked : IsFalse (makes_updates c) → marks ≡ []
  -- they never fall, and none is earlier than the start or later than the end
  pub marks_are : IsTrue vol.told.old
      → AreMarks marks vol.history.old.moment vol.history.new.moment
  pub marks_at : MarksAt c marks vol.history.new.moment
  -- how far the run came with it, and what it is left as then
  pub phase : Phase
  pub comes : ComesTo c end phase
  pub left : IsLeftIn phase c g end marks vol
  -- what a crash may leave at each moment
  pub tiles : KeepsUpdates c g end marks vol.told.old vol.history.old vol.history.new

-- ---- all of it

-- what a run was given, as its source and its volume tell it
abbrev pub given_by : SourceMove → VolumeMove → Given
given_by src vol = given src.left.old (files_of vol.told.old vol.history.old)

-- What a run of a command leaves, and what it ends with: it ends in one way, which says the rest.
pub record OfRun (c : Command) (status : ℕ) (marks : List ℕ) (src : SourceMove) (out : SinkMove)
    (vol : VolumeMove) (err : SinkMove) : Type 0 where
  pub end : End
  pub status_is : status ≡ status_at end
  pub source : OfSource c end src
  pub output : OfOutput c (given_by src vol) (length marks) end out
  pub volume : OfVolume c (given_by src vol) end marks vol
  pub line : GivesLineOf end err

-- Memory for the words was refused: the line of that is all that was given.
pub record IsUnread (status : ℕ) (src : SourceMove) (out : SinkMove) (vol : VolumeMove)
    (err : SinkMove) : Type 0 where
  pub status_is : status ≡ status_of OutOfMemory
  pub source : src.same
  pub output : out.same
  pub volume : vol.same
  pub line : GivesLine err.held.old err.held.new err.faults.old err.faults.new
      (line_of OutOfMemory)
