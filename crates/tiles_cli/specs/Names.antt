-- How a run ends: its status, and the one line that is given to the error output.
use Rattle.std.specs.Prelude.{ℕ, List, ◌++◌, codes, Ok, Err}
use Rattle.outside_io.specs.program.Line.{and_number}
use Rattle.bundle_tiles.specs.Imported.{ImportEnd}
use Rattle.bundle_tiles.specs.declared.raw_tile.RawReason.{RawReason}
use Rattle.bundle_tiles.specs.declared.raw_tile.RawReason.TheVariants as raw
use Rattle.bundle_tiles.specs.declared.taking.ImportStop.{ImportStop}
use Rattle.bundle_tiles.specs.declared.taking.ImportStop.TheVariants as found
use Rattle.opened_bundle.specs.Refusals.{store_text}
use Rattle.opened_bundle.specs.declared.refusal.StoreRefusal.{StoreRefusal}
use Rattle.opened_bundle.specs.declared.refusal.StoreRefusal.TheVariants.{Full}
use Rattle.program_ends.specs.Moves.{SinkMove}
use Rattle.program_ends.specs.Stop.{End as EndOf, GivesLineOf as GivesLineBy, line_by, status_by, status_at as status_at_by}
use Rattle.program_ends.specs.declared.stop.Stop.{Stop}
use Rattle.program_ends.specs.declared.stop.Stop.TheVariants.{Usage, Source, Output, Volume, OutOfMemory, Refused}
use Rattle.tiles_cli.specs.declared.refusal.Refusal.{Refusal}
use Rattle.tiles_cli.specs.declared.refusal.Refusal.TheVariants.{Stream, List as NoList, Store, TooManyTiles}
use Rattle.tiles_cli.specs.declared.slot_list.ListReason.{ListReason}
use Rattle.tiles_cli.specs.declared.slot_list.ListReason.TheVariants as list
use Rattle.tiles_cli.specs.declared.slot_list.ListStop.{ListStop}
use Rattle.tiles_cli.specs.declared.slot_list.ListStop.TheVariants as read

-- how the command ends: well, or with the reason of its stop
abbrev pub End : Type 0
End = EndOf Refusal

-- ---- stops

-- a stop of the bundle, as one of the program
abbrev pub with_store : Stop StoreRefusal → Stop Refusal
with_store Usage = Usage
with_store Source = Source
with_store Output = Output
with_store Volume = Volume
with_store OutOfMemory = OutOfMemory
with_store (Refused refusal) = Refused (Store refusal)

-- the same of an end
abbrev pub store_end_of : EndOf StoreRefusal → End
store_end_of (Ok x) = Ok tt
store_end_of (Err stop) = Err (with_store stop)

-- why a list of slots was not read
abbrev pub list_stop_of : ListStop → Stop Refusal
list_stop_of (read.Fault fault) = Refused (NoList fault)
list_stop_of read.Source = Source
list_stop_of read.OutOfMemory = OutOfMemory

-- how an import ends
abbrev pub import_stop_of : ImportStop → Stop Refusal
import_stop_of (found.Stream fault) = Refused (Stream fault)
import_stop_of found.Source = Source
import_stop_of found.Output = Output
import_stop_of found.Volume = Volume
import_stop_of found.OutOfMemory = OutOfMemory
import_stop_of (found.Full len) = Refused (Store (Full len))
import_stop_of found.TooManyTiles = Refused TooManyTiles

abbrev pub import_end_of : ImportEnd → End
import_end_of (Ok x) = Ok tt
import_end_of (Err stop) = Err (import_stop_of stop)

-- ---- statuses

abbrev pub refusal_status : Refusal → ℕ
refusal_status (Stream fault) = 2
refusal_status (NoList fault) = 2
refusal_status (Store refusal) = 7
refusal_status TooManyTiles = 7

abbrev pub status_of : Stop Refusal → ℕ
status_of stop = status_by refusal_status stop

-- the program's status
abbrev pub status_at : End → ℕ
status_at end = status_at_by refusal_status end

-- ---- the line

abbrev pub raw_name_of : RawReason → List ℕ
raw_name_of raw.BadTileMark = codes "BadTileMark"
raw_name_of raw.BadRow = codes "BadRow"
raw_name_of raw.BadCol = codes "BadCol"
raw_name_of raw.Truncated = codes "Truncated"
raw_name_of raw.BadSize = codes "BadSize"

abbrev pub list_name_of : ListReason → List ℕ
list_name_of list.BadLine = codes "BadLine"
list_name_of list.Truncated = codes "Truncated"
list_name_of list.TooLong = codes "TooLong"

-- the name of a reason, and a place
abbrev pub refused_text : List ℕ → ℕ → List ℕ
refused_text name place = codes "refused: " ++ (name ++ (codes " at" ++ and_number place))

abbrev pub refusal_text : Refusal → List ℕ
refusal_text (Stream fault) = refused_text (raw_name_of fault.reason) fault.place
refusal_text (NoList fault) = refused_text (list_name_of fault.reason) fault.place
refusal_text (Store refusal) = store_text refusal
refusal_text TooManyTiles = codes "store: TooManyTiles"

abbrev pub usage_text : List ℕ
usage_text = codes "usage: PATH export, export listed, import"

-- the line of a stop
abbrev pub line_of : Stop Refusal → List ℕ
line_of stop = line_by refusal_text usage_text stop

-- the error output was given the line of the stop, and is as it was where all went well
abbrev pub GivesLineOf : End → SinkMove → Type 0
GivesLineOf end err = GivesLineBy refusal_text usage_text end err
