-- How a run ends: its status, the lines that it gives, and the one of the error output.
use Rattle.std.specs.Prelude.{ℕ, List, [], ◌∷◌, ◌++◌, codes}
use Rattle.outside_io.specs.program.Line.{and_number}
use Rattle.reason_names.specs.Names.{grid_name_of}
use Rattle.bundle_store.specs.declared.fault.StoreFault.{StoreFault}
use Rattle.bundle_store.specs.declared.fault.StoreFault.TheVariants as found
use Rattle.program_ends.specs.declared.stop.Stop.{Stop}
use Rattle.program_ends.specs.declared.stop.Stop.TheVariants.{Source, Volume, OutOfMemory, Refused}
use Rattle.program_ends.specs.Stop.{End as EndOf, GivesLineOf as GivesLineBy, line_by, status_at as status_at_by}
use Rattle.program_ends.specs.Moves.{SinkMove}
use Rattle.opened_bundle.specs.declared.refusal.StoreRefusal.TheVariants.{NoTile, Beyond, BadBundle, BadJournal, Full}
use Rattle.opened_bundle.specs.Refusals.{store_text, two_numbers}
use Rattle.grid_blobs.specs.declared.stop.InputFault.{InputFault}
use Rattle.grid_blobs.specs.declared.stop.InputReason.{InputReason}
use Rattle.grid_blobs.specs.declared.stop.InputReason.TheVariants.{Grid, Leftover, DepthNeedsV4}
use Rattle.grid_blobs.specs.declared.stop.InputStop.{InputStop}
use Rattle.grid_blobs.specs.declared.stop.InputStop.TheVariants.{Fault as FaultOf, Source as SourceOf, OutOfMemory as MemoryOf}
use Rattle.level_cache.specs.declared.level.LevelFault.{LevelFault}
use Rattle.level_cache.specs.declared.level.LevelFault.TheVariants.{Shelf as ShelfOf, Store as StoreOf}
use Rattle.level_cache.specs.Places.{Corner}
use Rattle.level_cli.specs.declared.refusal.Refusal.{Refusal}
use Rattle.level_cli.specs.declared.refusal.Refusal.TheVariants.{Input, Store, TooLarge, ShelfFailed}

-- how a command ends: well, or with the reason of its stop
abbrev pub End : Type 0
End = EndOf Refusal

-- ---- stops

-- why no blobs were made
abbrev pub input_stop_of : InputStop → Stop Refusal
input_stop_of (FaultOf fault) = Refused (Input fault)
input_stop_of SourceOf = Source
input_stop_of MemoryOf = OutOfMemory

-- why the store refuses a call on this place
abbrev pub store_stop_of : Corner → StoreFault → Stop Refusal
store_stop_of place found.NoTile = Refused (Store (NoTile place.row place.col))
store_stop_of place (found.Beyond entry got) =
    Refused (Store (Beyond place.row place.col entry got))
store_stop_of place (found.BadBundle at number) = Refused (Store (BadBundle at number))
store_stop_of place (found.BadJournal at number) = Refused (Store (BadJournal at number))
store_stop_of place (found.Full len) = Refused (Store (Full len))
store_stop_of place (found.TileTooLarge at len) = Refused (TooLarge len)
store_stop_of place found.OutOfMemory = OutOfMemory
store_stop_of place _ = Volume

-- why a call on this place of the level refuses
abbrev pub level_stop_of : Corner → LevelFault → Stop Refusal
level_stop_of place ShelfOf = Refused ShelfFailed
level_stop_of place (StoreOf fault) = store_stop_of place fault

-- ---- statuses

abbrev pub refusal_status : Refusal → ℕ
refusal_status (Input fault) = 2
refusal_status (Store refusal) = 7
refusal_status (TooLarge len) = 7
refusal_status ShelfFailed = 8

-- the program's status
abbrev pub status_at : End → ℕ
status_at end = status_at_by refusal_status end

-- ---- the line of a stop

abbrev pub name_of : InputReason → List ℕ
name_of (Grid why) = grid_name_of why
name_of Leftover = codes "Leftover"
name_of DepthNeedsV4 = codes "DepthNeedsV4"

-- an input that is refused
abbrev pub fault_text : InputFault → List ℕ
fault_text fault =
    codes "refused: " ++ (name_of fault.reason ++ (codes " at" ++ and_number fault.place))

abbrev pub refusal_text : Refusal → List ℕ
refusal_text (Input fault) = fault_text fault
refusal_text (Store refusal) = store_text refusal
refusal_text (TooLarge len) =
    codes "store: " ++ two_numbers (codes "TileTooLarge") 0 (codes " size") len
refusal_text ShelfFailed = codes "shelf failed"

abbrev pub usage_text : List ℕ
usage_text = codes "usage: FOLDER put V E ROW COL, get ROW COL raw, name ROW COL"

-- the line of a stop
abbrev pub line_of : Stop Refusal → List ℕ
line_of stop = line_by refusal_text usage_text stop

-- the error output was given the line of the stop, and is as it was where all went well
abbrev pub GivesLineOf : End → SinkMove → Type 0
GivesLineOf end err = GivesLineBy refusal_text usage_text end err

-- ---- the lines of the output, each with a line feed (10) at its end

-- a tile of so many bytes was put at the place
unfoldable pub put_line : Corner → ℕ → List ℕ
put_line place size = codes "put"
    ++ (and_number place.row ++ (and_number place.col ++ (and_number size ++ 10 ∷ [])))

-- the name of a bundle
abbrev pub name_line : List ℕ → List ℕ
name_line name = name ++ 10 ∷ []
