-- How a run ends: its status, and the one line that is given to the error output.
use Rattle.std.specs.Prelude.{ℕ, List, ◌++◌, ◌==◌, if◌then◌else◌, codes, length, Bool, Ok, Err}
use Rattle.opened_bundle.specs.declared.refusal.StoreRefusal.{StoreRefusal}
use Rattle.opened_bundle.specs.Refusals.{store_text, two_numbers}
use Rattle.program_ends.specs.declared.stop.Stop.{Stop}
use Rattle.program_ends.specs.declared.stop.Stop.TheVariants.{Usage, Source, Output, Volume, OutOfMemory, Refused}
use Rattle.program_ends.specs.Stop.{End as EndOf, GivesLineOf as GivesLineBy, line_by, status_by, status_at as status_at_by}
use Rattle.program_ends.specs.Moves.{SinkMove}
use Rattle.tile_audit.specs.declared.stop.AuditStop.{AuditStop}
use Rattle.tile_audit.specs.declared.stop.AuditStop.TheVariants as audit
use Rattle.tile_audit.specs.declared.told.AuditedTile.{AuditedTile}
use Rattle.tile_audit.specs.Audit.{damaged_count}
use Rattle.audit_cli.specs.declared.refusal.Refusal.{Refusal}
use Rattle.audit_cli.specs.declared.refusal.Refusal.TheVariants.{Damaged, JournalOpen, NoBundle, Store}

-- how a run ends: well, or with the reason of its stop
abbrev pub End : Type 0
End = EndOf Refusal

-- ---- stops

-- a stop of the store, as one of the program
abbrev pub with_store : Stop StoreRefusal → Stop Refusal
with_store Usage = Usage
with_store Source = Source
with_store Output = Output
with_store Volume = Volume
with_store OutOfMemory = OutOfMemory
with_store (Refused refusal) = Refused (Store refusal)

-- why an audit ends before its totals
abbrev pub audit_stop_of : AuditStop → Stop Refusal
audit_stop_of audit.Output = Output
audit_stop_of audit.OutOfMemory = OutOfMemory

-- how a run ends that found so many tiles damaged, of so many
abbrev pub end_of_counts : ℕ → ℕ → End
end_of_counts damaged tiles =
    if damaged == 0 then Ok tt else Err (Refused (Damaged damaged tiles))

-- how a run ends that told these tiles
abbrev pub audited_end : Bool → List AuditedTile → End
audited_end strict tiles = end_of_counts (damaged_count strict tiles) (length tiles)

-- ---- statuses

abbrev pub refusal_status : Refusal → ℕ
refusal_status (Damaged damaged tiles) = 9
refusal_status JournalOpen = 7
refusal_status NoBundle = 7
refusal_status (Store refusal) = 7

abbrev pub status_of : Stop Refusal → ℕ
status_of stop = status_by refusal_status stop

-- the program's status
abbrev pub status_at : End → ℕ
status_at end = status_at_by refusal_status end

-- ---- the line

abbrev pub damaged_text : ℕ → ℕ → List ℕ
damaged_text damaged tiles =
    two_numbers (codes "damaged:") damaged (codes " of") tiles ++ codes " tiles"

abbrev pub plain_text : List ℕ → List ℕ
plain_text name = codes "store: " ++ name

abbrev pub refusal_text : Refusal → List ℕ
refusal_text (Damaged damaged tiles) = damaged_text damaged tiles
refusal_text JournalOpen = plain_text (codes "JournalOpen")
refusal_text NoBundle = plain_text (codes "NoBundle")
refusal_text (Store refusal) = store_text refusal

abbrev pub usage_text : List ℕ
usage_text = codes "usage: PATH audit N [all] [strict]"

-- the line of a stop
abbrev pub line_of : Stop Refusal → List ℕ
line_of stop = line_by refusal_text usage_text stop

-- the error output was given the line of the stop, and is as it was where all went well
abbrev pub GivesLineOf : End → SinkMove → Type 0
GivesLineOf end err = GivesLineBy refusal_text usage_text end err
