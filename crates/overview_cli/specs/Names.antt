-- How a run ends: its status, and the one line that is given to the error output.
use Rattle.std.specs.Prelude.{ℕ, ◌/◌, ◌%◌, List, [], ◌++◌, codes, Ok, Err}
use Rattle.outside_io.specs.program.Line.{and_number}
use Rattle.bundle_lines.specs.Gave.{PutEnd}
use Rattle.bundle_lines.specs.declared.stop.PutStop.TheVariants.{Output as PutOutput, Volume as PutVolume, Full as PutFull}
use Rattle.lerc_grammar.specs.declared.bands.BandReason.{BandReason}
use Rattle.lerc_grammar.specs.declared.bands.BandReason.TheVariants.{Blob, BadBand}
use Rattle.lerc_grammar.specs.declared.bands.BandsFault.{BandsFault}
use Rattle.opened_bundle.specs.declared.refusal.StoreRefusal.{StoreRefusal}
use Rattle.opened_bundle.specs.declared.refusal.StoreRefusal.TheVariants.{Beyond, Full}
use Rattle.opened_bundle.specs.Refusals.{store_text, two_numbers}
use Rattle.overview_updates.specs.declared.stop.OverviewStop.{OverviewStop}
use Rattle.overview_updates.specs.declared.stop.OverviewStop.TheVariants as found
use Rattle.program_ends.specs.declared.stop.Stop.{Stop}
use Rattle.program_ends.specs.declared.stop.Stop.TheVariants.{Usage, Source, Output, Volume, OutOfMemory, Refused}
use Rattle.program_ends.specs.Stop.{End as EndOf, GivesLineOf as GivesLineBy, line_by, status_by, status_at as status_at_by}
use Rattle.program_ends.specs.Moves.{SinkMove}
use Rattle.reason_names.specs.Names.{blob_name_of}
use Rattle.overview_cli.specs.declared.refusal.Refusal.{Refusal}
use Rattle.overview_cli.specs.declared.refusal.Refusal.TheVariants.{BadTile, Unlike, DepthNeedsV4, TileTooLarge, KeptTooMuch, Store}

-- how the command ends: well, or with the reason of its stop
abbrev pub End : Type 0
End = EndOf Refusal

-- ---- stops

-- a stop of one of the bundles, as one of the program
abbrev pub with_store : Stop StoreRefusal → Stop Refusal
with_store Usage = Usage
with_store Source = Source
with_store Output = Output
with_store Volume = Volume
with_store OutOfMemory = OutOfMemory
with_store (Refused refusal) = Refused (Store refusal)

-- why a bundle has no overview, as a stop
abbrev pub overview_stop_of : OverviewStop → Stop Refusal
overview_stop_of (found.Beyond slot entry got) =
    Refused (Store (Beyond (slot / 128) (slot % 128) entry got))
overview_stop_of (found.BadTile slot fault) =
    Refused (BadTile (slot / 128) (slot % 128) fault)
overview_stop_of (found.Unlike slot) = Refused (Unlike (slot / 128) (slot % 128))
overview_stop_of (found.DepthNeedsV4 slot) = Refused (DepthNeedsV4 (slot / 128) (slot % 128))
overview_stop_of (found.TileTooLarge at len) = Refused (TileTooLarge at len)
overview_stop_of (found.KeptTooMuch at) = Refused (KeptTooMuch at)
overview_stop_of found.Volume = Volume
overview_stop_of found.OutOfMemory = OutOfMemory

-- how puts end, as the command's end
abbrev pub put_end_of : PutEnd → End
put_end_of (Ok x) = Ok tt
put_end_of (Err PutOutput) = Err Output
put_end_of (Err PutVolume) = Err Volume
put_end_of (Err (PutFull len)) = Err (Refused (Store (Full len)))

-- ---- statuses

abbrev pub refusal_status : Refusal → ℕ
refusal_status (BadTile row col fault) = 2
refusal_status (Unlike row col) = 2
refusal_status (DepthNeedsV4 row col) = 2
refusal_status (TileTooLarge at len) = 7
refusal_status (KeptTooMuch at) = 7
refusal_status (Store refusal) = 7

abbrev pub status_of : Stop Refusal → ℕ
status_of stop = status_by refusal_status stop

-- the program's status
abbrev pub status_at : End → ℕ
status_at end = status_at_by refusal_status end

-- ---- the line

-- the name of a reason that a tile is refused for
abbrev pub band_name_of : BandReason → List ℕ
band_name_of (Blob reason) = blob_name_of reason
band_name_of BadBand = codes "BadBand"

-- a tile that is refused, by its row and column
abbrev pub at_place : List ℕ → ℕ → ℕ → List ℕ
at_place name row col = codes "refused: " ++ two_numbers name row [] col

-- and its first fault
abbrev pub fault_text : ℕ → ℕ → BandsFault → List ℕ
fault_text row col fault = at_place (codes "BadTile") row col
    ++ (codes " " ++ (band_name_of fault.reason ++ (codes " at" ++ and_number fault.place)))

abbrev pub large_text : ℕ → ℕ → List ℕ
large_text at len = codes "store: " ++ two_numbers (codes "TileTooLarge") at (codes " size") len

abbrev pub much_text : ℕ → List ℕ
much_text at = codes "store: " ++ (codes "KeptTooMuch" ++ and_number at)

abbrev pub refusal_text : Refusal → List ℕ
refusal_text (BadTile row col fault) = fault_text row col fault
refusal_text (Unlike row col) = at_place (codes "Unlike") row col
refusal_text (DepthNeedsV4 row col) = at_place (codes "DepthNeedsV4") row col
refusal_text (TileTooLarge at len) = large_text at len
refusal_text (KeptTooMuch at) = much_text at
refusal_text (Store refusal) = store_text refusal

abbrev pub usage_text : List ℕ
usage_text = codes "usage: FROM TO overview Q V E N"

-- the line of a stop
abbrev pub line_of : Stop Refusal → List ℕ
line_of stop = line_by refusal_text usage_text stop

-- the error output was given the line of the stop, and is as it was where all went well
abbrev pub GivesLineOf : End → SinkMove → Type 0
GivesLineOf end err = GivesLineBy refusal_text usage_text end err
