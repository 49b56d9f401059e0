-- How a run ends: its status, and the one line that is given to the error output.
use Rattle.std.specs.Prelude.{ℕ, List, ◌++◌, codes}
use Rattle.outside_io.specs.program.Line.{and_number}
use Rattle.reason_names.specs.Names.{grid_name_of}
use Rattle.ascii_grid.specs.declared.fault.AsciiReason.{AsciiReason}
use Rattle.ascii_grid.specs.declared.fault.AsciiReason.TheVariants.{Truncated, BadKey, Repeated, Missing, BadText, BadNumber, BadSize, TooLarge, OutOfRange, Leftover, BadMagic, BadFlags, Collision, DepthNot1, TooLong, Grid}
use Rattle.ascii_grid.specs.declared.fault.AsciiStop.{AsciiStop}
use Rattle.ascii_grid.specs.declared.fault.AsciiStop.TheVariants.{Fault, Source as SourceOf, OutOfMemory as MemoryOf}
use Rattle.program_ends.specs.declared.stop.Stop.{Stop}
use Rattle.program_ends.specs.declared.stop.Stop.TheVariants.{Source, OutOfMemory, Refused}
use Rattle.program_ends.specs.Stop.{End as EndOf, GivesLineOf as GivesLineBy, line_by, status_at as status_at_by}
use Rattle.program_ends.specs.Moves.{SinkMove}
use Rattle.ascii_cli.specs.declared.refusal.Refusal.{Refusal}

-- how a command ends: well, or with the reason of its stop
abbrev pub End : Type 0
End = EndOf Refusal

-- why no grid was read, as a stop
abbrev pub stop_of : AsciiStop → Stop Refusal
stop_of (Fault f) = Refused (record { fault = f })
stop_of SourceOf = Source
stop_of MemoryOf = OutOfMemory

-- ---- statuses

abbrev pub refusal_status : Refusal → ℕ
refusal_status refusal = 2

-- the program's status
abbrev pub status_at : End → ℕ
status_at end = status_at_by refusal_status end

-- ---- the line

abbrev pub name_of : AsciiReason → List ℕ
name_of Truncated = codes "Truncated"
name_of BadKey = codes "BadKey"
name_of Repeated = codes "Repeated"
name_of Missing = codes "Missing"
name_of BadText = codes "BadText"
name_of BadNumber = codes "BadNumber"
name_of BadSize = codes "BadSize"
name_of TooLarge = codes "TooLarge"
name_of OutOfRange = codes "OutOfRange"
name_of Leftover = codes "Leftover"
name_of BadMagic = codes "BadMagic"
name_of BadFlags = codes "BadFlags"
name_of Collision = codes "Collision"
name_of DepthNot1 = codes "DepthNot1"
name_of TooLong = codes "TooLong"
name_of (Grid why) = grid_name_of why

-- an input that is refused
abbrev pub refusal_text : Refusal → List ℕ
refusal_text refusal =
    codes "refused: " ++ (name_of refusal.fault.reason
    ++ (codes " at" ++ and_number refusal.fault.place))

abbrev pub usage_text : List ℕ
usage_text = codes "usage: split TYPE, join"

-- the line of a stop
abbrev pub line_of : Stop Refusal → List ℕ
line_of stop = line_by refusal_text usage_text stop

-- the error output was given the line of the stop, and is as it was where all went well
abbrev pub GivesLineOf : End → SinkMove → Type 0
GivesLineOf end err = GivesLineBy refusal_text usage_text end err
