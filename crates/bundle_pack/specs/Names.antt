-- How a run of the program ends: its status, and its one line.
use Rattle.std.specs.Prelude.{ℕ, ◌/◌, ◌%◌, List, [], ◌∷◌, ◌++◌, codes, Some}
use Rattle.outside_io.specs.program.Line.{and_number}
use Rattle.bundle_store.specs.declared.fault.StoreFault.{StoreFault}
use Rattle.bundle_store.specs.declared.fault.StoreFault.TheVariants as store
use Rattle.opened_bundle.specs.declared.refusal.StoreRefusal.{StoreRefusal}
use Rattle.opened_bundle.specs.declared.refusal.StoreRefusal.TheVariants.{Beyond}
use Rattle.opened_bundle.specs.Refusals.{stop_of as bundle_stop_of, store_text}
use Rattle.program_ends.specs.declared.stop.Stop.{Stop}
use Rattle.program_ends.specs.declared.stop.Stop.TheVariants.{Usage, Source, Output, Volume, OutOfMemory, Refused}
use Rattle.program_ends.specs.Stop.{End as EndOf, GivesLineOf as GivesLineBy, line_by, status_at as status_at_by}
use Rattle.program_ends.specs.Moves.{SinkMove}
use Rattle.bundle_pack.specs.declared.fault.PackFault.{PackFault}
use Rattle.bundle_pack.specs.declared.fault.PackFault.TheVariants.{Source as SourceFault, Target as TargetFault, KeptTooMuch as TooMuch, OutOfMemory as NoMemory}
use Rattle.bundle_pack.specs.declared.packing.PackReport.{PackReport}
use Rattle.bundle_pack.specs.declared.refusal.Refusal.{Refusal}
use Rattle.bundle_pack.specs.declared.refusal.Refusal.TheVariants.{Store, KeptTooMuch}

-- how a run ends: well, or with the reason of its stop
abbrev pub End : Type 0
End = EndOf Refusal

-- a stop of one bundle, as one of the program
abbrev pub with_store : Stop StoreRefusal → Stop Refusal
with_store Usage = Usage
with_store Source = Source
with_store Output = Output
with_store Volume = Volume
with_store OutOfMemory = OutOfMemory
with_store (Refused refusal) = Refused (Store refusal)

-- a fault of the store, as a stop
abbrev pub store_stop_of : StoreFault → Stop Refusal
store_stop_of fault = with_store (bundle_stop_of fault)

-- why packing refuses, as a stop: of which source is not told, and of a tile its row and column
abbrev pub stop_of : PackFault → Stop Refusal
stop_of (SourceFault at (Some slot) (store.Beyond entry got)) =
    Refused (Store (Beyond (slot / 128) (slot % 128) entry got))
stop_of (SourceFault at slot fault) = store_stop_of fault
stop_of (TargetFault fault) = store_stop_of fault
stop_of (TooMuch len) = Refused (KeptTooMuch len)
stop_of NoMemory = OutOfMemory

-- ---- statuses

abbrev pub refusal_status : Refusal → ℕ
refusal_status refusal = 7

-- the program's status
abbrev pub status_at : End → ℕ
status_at end = status_at_by refusal_status end

-- ---- the line

abbrev pub kept_text : ℕ → List ℕ
kept_text len = codes "store: KeptTooMuch" ++ and_number len

abbrev pub refusal_text : Refusal → List ℕ
refusal_text (Store refusal) = store_text refusal
refusal_text (KeptTooMuch len) = kept_text len

abbrev pub usage_text : List ℕ
usage_text = codes "usage: TARGET SOURCE, with 1 to 8 sources"

-- the line of a stop
abbrev pub line_of : Stop Refusal → List ℕ
line_of stop = line_by refusal_text usage_text stop

-- the error output was given the line of the stop, and is as it was where all went well
abbrev pub GivesLineOf : End → SinkMove → Type 0
GivesLineOf end err = GivesLineBy refusal_text usage_text end err

-- ---- the output

-- what is told of a target that was packed
unfoldable pub packed_line : PackReport → List ℕ
packed_line report =
    codes "packed" ++ (and_number report.tiles ++ (and_number report.length ++ 10 ∷ []))
