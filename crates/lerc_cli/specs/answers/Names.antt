-- How a run ends: its status, and the one line that is given to the error output.
use Rattle.std.specs.Prelude.{ℕ, List, [], ◌++◌, codes}
use Rattle.outside_io.specs.program.Line.{and_number}
use Rattle.lerc_header.specs.declared.fault.BlobReason.{BlobReason}
use Rattle.lerc_header.specs.declared.fault.BlobReason.TheVariants.{BadChecksum, BadMaskCount}
use Rattle.reason_names.specs.Names.{blob_name_of, grid_name_of}
use Rattle.program_ends.specs.declared.stop.Stop.{Stop}
use Rattle.program_ends.specs.Stop.{End as EndOf, GivesLineOf as GivesLineBy, line_by, status_by, status_at as status_at_by}
use Rattle.program_ends.specs.Moves.{SinkMove}
use Rattle.opened_bundle.specs.Refusals.{store_text, two_numbers}
use Rattle.lerc_cli.specs.declared.refusal.Fault.{Fault}
use Rattle.lerc_cli.specs.declared.refusal.Reason.{Reason}
use Rattle.lerc_cli.specs.declared.refusal.Reason.TheVariants.{Blob, BadBand, Grid, Leftover as LeftoverOf, DepthNeedsV4, BadTileMark, BadSlot}
use Rattle.lerc_cli.specs.declared.refusal.Refusal.{Refusal}
use Rattle.lerc_cli.specs.declared.refusal.Refusal.TheVariants.{Input, Store, Stream}
use Rattle.lerc_cli.specs.declared.refusal.StreamRefusal.{StreamRefusal}
use Rattle.lerc_cli.specs.declared.refusal.StreamRefusal.TheVariants.{TileTooLarge, TooManyTiles, KeptTooMuch}

-- how a command ends: well, or with the reason of its stop
abbrev pub End : Type 0
End = EndOf Refusal

-- ---- statuses

abbrev pub refusal_status : Refusal → ℕ
refusal_status (Input fault) = 2
refusal_status (Store refusal) = 7
refusal_status (Stream refusal) = 7

abbrev pub status_of : Stop Refusal → ℕ
status_of stop = status_by refusal_status stop

-- the program's status
abbrev pub status_at : End → ℕ
status_at end = status_at_by refusal_status end

-- ---- the line

abbrev pub name_of : Reason → List ℕ
name_of (Blob reason) = blob_name_of reason
name_of (Grid reason) = grid_name_of reason
name_of LeftoverOf = codes "Leftover"
name_of BadBand = codes "BadBand"
name_of DepthNeedsV4 = codes "DepthNeedsV4"
name_of BadTileMark = codes "BadTileMark"
name_of BadSlot = codes "BadSlot"

-- what follows the place: the numbers that did not agree
abbrev pub blob_numbers_of : BlobReason → List ℕ
blob_numbers_of (BadChecksum stored computed) =
    two_numbers (codes " stored") stored (codes " computed") computed
blob_numbers_of (BadMaskCount header counted) =
    two_numbers (codes " header") header (codes " counted") counted
blob_numbers_of _ = []

abbrev pub numbers_of : Reason → List ℕ
numbers_of (Blob reason) = blob_numbers_of reason
numbers_of _ = []

-- an input that is refused
abbrev pub fault_text : Fault → List ℕ
fault_text fault =
    codes "refused: " ++ (name_of fault.reason
    ++ (codes " at" ++ (and_number fault.place ++ numbers_of fault.reason)))

-- tiles of an input that the store does not take
abbrev pub stream_text : StreamRefusal → List ℕ
stream_text (TileTooLarge at len) =
    codes "store: " ++ two_numbers (codes "TileTooLarge") at (codes " size") len
stream_text TooManyTiles = codes "store: " ++ codes "TooManyTiles"
stream_text (KeptTooMuch at) = codes "store: " ++ (codes "KeptTooMuch" ++ and_number at)

abbrev pub refusal_text : Refusal → List ℕ
refusal_text (Input fault) = fault_text fault
refusal_text (Store refusal) = store_text refusal
refusal_text (Stream refusal) = stream_text refusal

abbrev pub usage_text : List ℕ
usage_text =
    codes "usage: PATH encode V E, decode, info, build V E N, put V E N, get R C, get R C raw, "
    ++ codes "list, check, recover, sample START COUNT"

-- the line of a stop
abbrev pub line_of : Stop Refusal → List ℕ
line_of stop = line_by refusal_text usage_text stop

-- the error output was given the line of the stop, and is as it was where all went well
abbrev pub GivesLineOf : End → SinkMove → Type 0
GivesLineOf end err = GivesLineBy refusal_text usage_text end err
