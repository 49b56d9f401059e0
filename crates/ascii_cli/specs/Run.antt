-- What a run leaves of the objects that it is lent, whatever it answers.
use Rattle.std.specs.Prelude.{◌≡◌, ℕ, List, [], Option, None, Some, Ok, Err}
use Rattle.first_fault.specs.Faults.{Faults}
use Rattle.outside_io.specs.streams.Faults.{IsCause}
use Rattle.outside_io.specs.program.Line.{GivesLine}
use Rattle.outside_io.specs.streams.Sink.{Holds}
use Rattle.program_ends.specs.Moves.{SinkMove, SourceMove}
use Rattle.program_ends.specs.Stop.{Gained}
use Rattle.program_ends.specs.declared.stop.Stop.TheVariants.{Usage, Refused, Source, Output, Volume, OutOfMemory}
use Rattle.raster_cells.specs.declared.kind.PixelType.{PixelType}
use Rattle.raster_values.specs.Raster.{IsRaster}
use Rattle.ascii_grid.specs.declared.fault.AsciiFault.{AsciiFault}
use Rattle.ascii_grid.specs.declared.fault.AsciiReason.{AsciiReason}
use Rattle.ascii_grid.specs.declared.fault.AsciiStop.{AsciiStop}
use Rattle.ascii_grid.specs.declared.fault.AsciiStop.TheVariants.{Fault, Source as SourceOf, OutOfMemory as MemoryOf}
use Rattle.ascii_grid.specs.declared.grid.AsciiGrid.{AsciiGrid}
use Rattle.ascii_grid.specs.Canon.{IsLawful, canon}
use Rattle.ascii_grid.specs.Lga.{IsLga, lga_faults, lga_of}
use Rattle.ascii_grid.specs.Text.{AsciiFaults, IsAscii}
use Rattle.ascii_cli.specs.declared.words.Command.{Command}
use Rattle.ascii_cli.specs.declared.words.Command.TheVariants.{Split, Join}
use Rattle.ascii_cli.specs.Names.{End, GivesLineOf, line_of, status_at}

-- ---- what a command answers

-- the input, where it is told, is what the command reads: that of this grid
abbrev pub Reads : Command → Option (List ℕ) → AsciiGrid → Type 0
Reads c None g = Unit {0}
Reads (Split kind) (Some text) g = IsAscii text kind g
Reads Join (Some bytes) g = IsLga bytes g

-- what the command gives of a grid
abbrev pub gives : Command → AsciiGrid → List ℕ
gives (Split kind) g = lga_of g
gives Join g = canon g

-- what is wrong first in an input that the command does not read
abbrev pub first_fault : Command → List ℕ → Faults AsciiReason
first_fault (Split kind) text = AsciiFaults kind text
first_fault Join bytes = lga_faults bytes

-- this is wrong first in the input, where it is told
abbrev pub IsFirst : Command → Option (List ℕ) → AsciiFault → Type 0
IsFirst c None f = Unit {0}
IsFirst c (Some input) f = first_fault c input f.place f.reason

-- a stop as no grid was read
abbrev pub IsStopFor : Command → Option (List ℕ) → AsciiStop → Type 0
IsStopFor c input (Fault f) = IsFirst c input f
IsStopFor c input SourceOf = Unit {0}
IsStopFor c input MemoryOf = Unit {0}

-- the output is that of the input's grid, which a text can say
abbrev pub IsOutput : Command → Option (List ℕ) → List ℕ → Type 0
IsOutput c input output =
    (g : AsciiGrid) × (IsLawful g × (IsRaster g.raster × (Reads c input g × (output ≡ gives c g))))

-- what the output is to gain as a run ends so: where it failed, it gains a prefix of it
abbrev pub Answers : Command → Option (List ℕ) → End → List ℕ → Type 0
Answers c input (Ok u) output = IsOutput c input output
Answers c input (Err Output) output = IsOutput c input output
Answers c input (Err (Refused refusal)) output = IsFirst c input refusal.fault × (output ≡ [])
Answers c input (Err Source) output = output ≡ []
Answers c input (Err OutOfMemory) output = output ≡ []
Answers c input (Err Usage) output = ⊥
Answers c input (Err Volume) output = ⊥

-- ---- what is left of each object

pub record OfSource (end : End) (src : SourceMove) : Type 0 where
  pub cause : IsCause (end ≡ Err Source) src.faults.old src.faults.new

-- the run stopped before the output began
abbrev pub StopsBeforeOutput : End → Type 0
StopsBeforeOutput (Ok u) = ⊥
StopsBeforeOutput (Err Output) = ⊥
StopsBeforeOutput (Err Volume) = ⊥
StopsBeforeOutput (Err Usage) = Unit {0}
StopsBeforeOutput (Err Source) = Unit {0}
StopsBeforeOutput (Err OutOfMemory) = Unit {0}
StopsBeforeOutput (Err (Refused refusal)) = Unit {0}

-- What the output has gained: what the command answers with, or where it failed a prefix of it.
pub record OfOutput (c : Command) (input : Option (List ℕ)) (end : End) (out : SinkMove) : Type 0
  where
    pub cause : IsCause (end ≡ Err Output) out.faults.old out.faults.new
    pub gave : (output : List ℕ) × (Answers c input end output × Gained end out.held output)
    pub idle : StopsBeforeOutput end → out.same

-- What a run of a command leaves, and what it ends with: it ends in one way, which says the rest.
pub record OfRun (c : Command) (status : ℕ) (src : SourceMove) (out err : SinkMove) : Type 0 where
  pub end : End
  pub status_is : status ≡ status_at end
  pub source : OfSource end src
  pub output : OfOutput c src.left.old end out
  pub line : GivesLineOf end err

-- Memory for the words was refused: the line of that is all that was given.
pub record IsUnread (status : ℕ) (src : SourceMove) (out err : SinkMove) : Type 0 where
  pub status_is : status ≡ 6
  pub source : src.same
  pub output : out.same
  pub line : GivesLine err.held.old err.held.new err.faults.old err.faults.new
      (line_of OutOfMemory)

-- ---- in the words of a refused input

-- the error output was given the line of a first fault
abbrev pub TellsFirst : Faults AsciiReason → SinkMove → Type 0
TellsFirst faults err = (fault : AsciiFault) × (faults fault.place fault.reason
    × GivesLine err.held.old err.held.new err.faults.old err.faults.new
    (line_of (Refused (record { fault = fault }))))

-- ---- in the words of both commands

-- The output has gained the file of the text's grid, which a text can say. What `join` gives of
-- that file is the one text that is written of the grid, and this is again a text of it.
pub record SplitsToJoin (kind : PixelType) (text : List ℕ) (out : SinkMove) : Type 0 where
  pub grid : AsciiGrid
  pub read : IsAscii text kind grid
  pub lawful : IsLawful grid
  pub gave : Holds out.held.old out.held.new (lga_of grid)
  pub file : IsLga (lga_of grid) grid
  pub joins : (output : List ℕ) → IsOutput Join (Some (lga_of grid)) output → output ≡ canon grid
  pub again : IsAscii (canon grid) kind grid
