-- What opening leaves, as the run's own end.
use Rattle.std.proofs.Common.{◌≡◌, ◌⊎◌, inl, inr, ℕ, ◌+◌, ◌<◌, ◌≤◌, ◌==◌, Bool, true, false, if◌then◌else◌, List, [], length, Some, Ok, Err, refl, sym, subst, ◌∙◌, arith}
use Rattle.std.specs.Prelude.{IfSome, IsTrue}
use Rattle.outside_io.specs.declared.volume.VolFile.TheVariants.{Bundle, Journal}
use Rattle.outside_io.specs.streams.Sink.{Holds}
use Rattle.outside_io.specs.streams.Faults.{FailedBetween, IsCause}
use Rattle.outside_io.specs.volume.History.{History, contents}
use Rattle.outside_io.proofs.StreamLemmas.Gives.{Holds_none}
use Rattle.bundle_index.specs.Sizes.{slot_count}
use Rattle.bundle_store.specs.declared.fault.StoreFault.{StoreFault}
use Rattle.bundle_store.specs.declared.fault.StoreFault.TheVariants as found
use Rattle.bundle_store.specs.Session.{OpenFails, OpenRefuses, open_fault}
use Rattle.bundle_store.specs.Tiles.{HasIndex, Opens}
use Rattle.side_journal.specs.declared.body.Body.{Body}
use Rattle.side_journal.specs.declared.body.JournalState.TheVariants as state
use Rattle.side_journal.specs.Says.{IsOpen, IsWrongAt, Says}
use Rattle.opened_bundle.specs.Files.{Files, files_of}
use Rattle.opened_bundle.specs.Refusals.{stop_of}
use Rattle.opened_bundle.specs.declared.refusal.StoreRefusal.TheVariants.{BadBundle, BadJournal}
use Rattle.program_ends.specs.Moves.{SinkMove, VolumeMove}
use Rattle.program_ends.specs.declared.stop.Stop.{Stop}
use Rattle.program_ends.specs.declared.stop.Stop.TheVariants.{Usage, Source, Output, Volume, OutOfMemory, Refused}
use Rattle.tile_audit.specs.declared.stop.AuditStop.{AuditStop}
use Rattle.tile_audit.specs.declared.stop.AuditStop.TheVariants as cut
use Rattle.tile_audit.specs.declared.told.AuditedTile.{AuditedTile}
use Rattle.tile_audit.specs.declared.totals.Totals.{Totals}
use Rattle.tile_audit.specs.Audit.{CountsFailed, IsAuditBelow, count_of, damaged_count, is_failed}
use Rattle.tile_audit.specs.Gave.{AreTotals, AuditGave, IsAuditOf, IsAuditOfAll, IsFrontOf}
use Rattle.audit_cli.specs.Names.{audit_stop_of, end_of_counts, with_store}
use Rattle.audit_cli.specs.Opening.{IsAuditable, IsRefused, OpeningStops, files_at}
use Rattle.audit_cli.specs.Run.{AuditsAll, MayAudit, OfEnd}
use Rattle.audit_cli.specs.declared.command.Command.{Command}
use Rattle.audit_cli.specs.declared.refusal.Refusal.{Refusal}
use Rattle.audit_cli.specs.declared.refusal.Refusal.TheVariants.{Damaged, JournalOpen, NoBundle, Store}
use Rattle.audit_cli.proofs.Refusing.{told_files}

-- a call that failed
pub failed_cause : (P : Type 0) (old new : ℕ) → P → (old ≤ new) × FailedBetween old new → IsCause P old new
failed_cause P old new is failed = record { counts = failed.0; failed = λ p. failed.1; rose = λ rose. is }

-- nothing was given of no slot
front_none : (told : Bool) (bundle : List ℕ) (old new : ℕ) → old ≤ new → IsFrontOf told bundle [] old new
front_none told bundle old new up = (
  0,
  (
    omega arith,
    record {
      audit = λ tells. tt;
      may_be = record { each = λ k d less. absurd (omega (arith, less)); rising = λ i j d less within. absurd (omega (arith, within)) };
      failed = record { counts = up; failed = inl (omega arith) };
    },
  ),
)

may_so : (vol : VolumeMove) → IfSome (files_of vol.told.old vol.history.old) IsAuditable → MayAudit vol
may_so vol is = λ tells. let here : IfSome (Some (files_at vol.history.old)) IsAuditable = subst (λ o. IfSome o IsAuditable) (told_files vol.told.old vol.history.old tells) is in here

-- a stop of opening is the end, and the output is as it was
pub stopped_so : (c : Command) (stop : Stop Refusal) (vol : VolumeMove) (out : SinkMove) → OpeningStops (files_of vol.told.old vol.history.old) stop → IsCause (stop ≡ Volume) vol.faults.old vol.faults.new → vol.history.new.moment ≤ vol.history.old.moment + 6
    → out.same → out.held.new ≡ out.held.old → OfEnd c (Err stop) vol out
stopped_so c Volume vol out stops cause early same held = record { failed = cause.failed refl; early = early; output = same }
stopped_so c OutOfMemory vol out stops cause early same held = (
  may_so vol stops,
  ([], (front_none vol.told.old (contents Bundle vol.history.old) vol.faults.old vol.faults.new cause.counts, subst (λ h. Holds out.held.old h []) (sym held) (Holds_none out.held.old))),
)
stopped_so c (Refused (Damaged damaged tiles)) vol out stops cause early same held = absurd stops.0
stopped_so c (Refused JournalOpen) vol out stops cause early same held = (stops, same)
stopped_so c (Refused NoBundle) vol out stops cause early same held = (stops, same)
stopped_so c (Refused (Store refusal)) vol out stops cause early same held = (stops, same)
stopped_so c Usage vol out stops cause early same held = absurd stops
stopped_so c Source vol out stops cause early same held = absurd stops
stopped_so c Output vol out stops cause early same held = absurd stops

-- ---- opening

-- what holds of the files where they are told
pub when_told : (told : Bool) (h : History) (P : Files → Type 0) → (IsTrue told → P (files_at h)) → IfSome (files_of told h) P
when_told true h P go = go refl
when_told false h P go = tt

pub journal_open : (told : Bool) (h : History) (body : Body) → (IsTrue told → Says (contents Journal h) (state.Open body)) → OpeningStops (files_of told h) (Refused JournalOpen)
journal_open told h body says = (tt, when_told told h (λ f. IsRefused f JournalOpen) (λ tells. (body, says tells)))

pub journal_bad : (told : Bool) (h : History) (place number : ℕ) → IsWrongAt place number → (IsTrue told → Says (contents Journal h) (state.Bad place number)) → OpeningStops (files_of told h) (Refused (Store (BadJournal place number)))
journal_bad told h place number wrong says = (wrong, when_told told h (λ f. IsRefused f (Store (BadJournal place number))) says)

-- there is no bundle, or it was not read how long it is
pub no_bundle : (told : Bool) (h mid : History) (stop : Stop Refusal) → (IsTrue told → ¬ IsOpen (contents Journal h)) → (IsTrue told → contents Bundle mid ≡ contents Bundle h)
    → (stop ≡ Volume) ⊎ ((stop ≡ Refused NoBundle) × (IsTrue told → contents Bundle mid ≡ [])) → OpeningStops (files_of told h) stop
no_bundle told h mid stop closed same (inl is) = subst (OpeningStops (files_of told h)) (sym is) tt
no_bundle told h mid stop closed same (inr (is, none)) =
    subst (OpeningStops (files_of told h)) (sym is) (tt, when_told told h (λ f. IsRefused f NoBundle) (λ tells. (closed tells, sym (same tells) ∙ none tells)))

pub index_of : (b : List ℕ) → Opens b → 0 < length b → HasIndex b
index_of b (inl empty) some = absurd (omega (arith, empty, some))
index_of b (inr has) some = has

pub may_be_audited : (told : Bool) (h mid : History) → (IsTrue told → ¬ IsOpen (contents Journal h)) → (IsTrue told → contents Bundle mid ≡ contents Bundle h) → (IsTrue told → 0 < length (contents Bundle mid)) → (IsTrue told → Opens (contents Bundle mid))
    → IsTrue told → IsAuditable (files_at h)
may_be_audited told h mid closed same some opens tells =
    record { closed = closed tells; index = subst HasIndex (same tells) (index_of (contents Bundle mid) (opens tells) (some tells)) }

pub unopened : (told : Bool) (h mid : History) (fault : StoreFault) → (IsTrue told → ¬ IsOpen (contents Journal h)) → (IsTrue told → contents Bundle mid ≡ contents Bundle h) → (IsTrue told → 0 < length (contents Bundle mid))
    → (IsTrue told → OpenRefuses (contents Bundle mid) fault) → OpenFails fault → OpeningStops (files_of told h) (with_store (stop_of fault))
unopened told h mid found.Device closed same some refuses fails = tt
unopened told h mid (found.BadBundle at number) closed same some refuses fails = (
  fails,
  when_told told h (λ f. IsRefused f (Store (BadBundle at number))) (λ tells. (closed tells, subst (λ b. open_fault b ≡ Some (record { place = at; found = number })) (same tells) (refuses tells))),
)
unopened told h mid found.OutOfMemory closed same some refuses fails = when_told told h IsAuditable (may_be_audited told h mid closed same some refuses)
unopened told h mid found.NoTile closed same some refuses fails = absurd fails
unopened told h mid (found.Beyond entry got) closed same some refuses fails = absurd fails
unopened told h mid (found.TileTooLarge at len) closed same some refuses fails = absurd fails
unopened told h mid (found.EmptyTile at) closed same some refuses fails = absurd fails
unopened told h mid (found.Full len) closed same some refuses fails = absurd fails
unopened told h mid (found.NotEmpty len) closed same some refuses fails = absurd fails
unopened told h mid (found.BadJournal at number) closed same some refuses fails = absurd fails
unopened told h mid found.Stopped closed same some refuses fails = absurd fails

-- ---- the audit, as one of the volume at the start

below_so : (some told : Bool) (b bundle : List ℕ) (end : ℕ) (tiles : List AuditedTile) (mid old new : ℕ) → IsAuditOf some b end tiles mid new → (IsTrue told → IsTrue some) → (IsTrue told → b ≡ bundle) → mid ≡ old → IsAuditOf told bundle end tiles old new
below_so some told b bundle end tiles mid old new is tells same e = record {
  audit = λ t. subst (λ l. IsAuditBelow l end tiles) (same t) (is.audit (tells t));
  may_be = is.may_be;
  failed = subst (λ (n : ℕ). CountsFailed tiles n new) e is.failed;
}

pub all_so : (some told : Bool) (b bundle : List ℕ) (tiles : List AuditedTile) (mid old new : ℕ) → IsAuditOfAll some b tiles mid new → (IsTrue told → IsTrue some) → (IsTrue told → b ≡ bundle) → mid ≡ old → IsAuditOfAll told bundle tiles old new
all_so some told b bundle tiles mid old new is tells same e = record {
  audit = below_so some told b bundle slot_count tiles mid old new is.audit tells same e;
  rose = subst (λ (n : ℕ). n < new → 0 < count_of is_failed tiles) e is.rose;
}

pub front_so : (some told : Bool) (b bundle : List ℕ) (tiles : List AuditedTile) (mid old new : ℕ) → IsFrontOf some b tiles mid new → (IsTrue told → IsTrue some) → (IsTrue told → b ≡ bundle) → mid ≡ old → IsFrontOf told bundle tiles old new
front_so some told b bundle tiles mid old new (end, (within, is)) tells same e = (end, (within, below_so some told b bundle end tiles mid old new is tells same e))

by_test : (c : Command) (test : Bool) (damaged tiles : ℕ) (vol : VolumeMove) (out : SinkMove) → AuditsAll c (if test then Ok tt else Err (Refused (Damaged damaged tiles))) vol out
    → OfEnd c (if test then Ok tt else Err (Refused (Damaged damaged tiles))) vol out
by_test c true damaged tiles vol out did = did
by_test c false damaged tiles vol out did = did

-- an audit that went through
pub audits_all : (c : Command) (totals : Totals) (damaged : ℕ) (some : Bool) (b : List ℕ) (mid : ℕ) (vol : VolumeMove) (out : SinkMove) → AuditGave some b c.all (Ok totals) mid vol.faults.new out.held.old out.held.new
    → ((tiles : List AuditedTile) → AreTotals tiles totals → damaged ≡ damaged_count c.strict tiles) → (IsTrue vol.told.old → IsTrue some) → (IsTrue vol.told.old → b ≡ contents Bundle vol.history.old) → mid ≡ vol.faults.old → MayAudit vol
    → OfEnd c (end_of_counts damaged totals.tiles) vol out
audits_all c totals damaged some b mid vol out (tiles, (all, (are, gave))) counts tells same e may =
    by_test c (damaged == 0) damaged totals.tiles vol out (record {
      may = may;
      tiles = tiles;
      tells = all_so some vol.told.old b (contents Bundle vol.history.old) tiles mid vol.faults.old vol.faults.new all tells same e;
      gave = gave;
      ends = λ i. end_of_counts (counts tiles are i) (are.tiles_are i);
    })

-- one that was cut off
pub cut_off : (c : Command) (stop : AuditStop) (some : Bool) (b : List ℕ) (mid : ℕ) (vol : VolumeMove) (out : SinkMove) → AuditGave some b c.all (Err stop) mid vol.faults.new out.held.old out.held.new → (IsTrue vol.told.old → IsTrue some)
    → (IsTrue vol.told.old → b ≡ contents Bundle vol.history.old) → mid ≡ vol.faults.old → MayAudit vol → OfEnd c (Err (audit_stop_of stop)) vol out
cut_off c cut.OutOfMemory some b mid vol out (tiles, (front, gave)) tells same e may =
    (may, (tiles, (front_so some vol.told.old b (contents Bundle vol.history.old) tiles mid vol.faults.old vol.faults.new front tells same e, gave)))
cut_off c cut.Output some b mid vol out (tiles, inl (front, gave)) tells same e may =
    (may, (tiles, inl (front_so some vol.told.old b (contents Bundle vol.history.old) tiles mid vol.faults.old vol.faults.new front tells same e, gave)))
cut_off c cut.Output some b mid vol out (tiles, inr (all, gave)) tells same e may =
    (may, (tiles, inr (all_so some vol.told.old b (contents Bundle vol.history.old) tiles mid vol.faults.old vol.faults.new all tells same e, gave)))
