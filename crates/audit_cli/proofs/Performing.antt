-- How the bundle is opened to be audited, and what an audit of it leaves.
use Rattle.std.proofs.Common.{◌≡◌, ◌⊎◌, inl, inr, ℕ, ◌≤◌, ◌<◌, ◌==◌, if◌then◌else◌, Bool, true, false, length, Ok, Err, refl, sym, ap, subst, ◌∙◌, arith}
use Rattle.std.specs.Prelude.{IsTrue}
use Rattle.std.proofs.lemmas.Bool.{cases_lt}
use Rattle.outside_io.specs.declared.volume.VolFile.TheVariants.{Bundle, Journal}
use Rattle.outside_io.specs.streams.Faults.{IsCause}
use Rattle.outside_io.specs.volume.History.{During, History, contents, current}
use Rattle.bundle_store.specs.declared.fault.StoreFault.{StoreFault}
use Rattle.bundle_store.specs.Causes.{FaultFrom}
use Rattle.bundle_store.specs.Session.{OpenFails, OpenRefuses, Serves, SessionState}
use Rattle.bundle_store.specs.Told.{OnlyReads}
use Rattle.side_journal.specs.Says.{IsOpen}
use Rattle.program_ends.specs.Moves.{volume_move}
use Rattle.program_ends.specs.declared.stop.Stop.{Stop}
use Rattle.program_ends.specs.declared.stop.Stop.TheVariants.{Usage, Source, Output, Volume, OutOfMemory, Refused}
use Rattle.program_ends.proofs.Ends.{caused}
use Rattle.opened_bundle.specs.Files.{files_of}
use Rattle.opened_bundle.specs.Refusals.{stop_of}
use Rattle.opened_bundle.specs.declared.refusal.StoreRefusal.{StoreRefusal}
use Rattle.opened_bundle.proofs.BundleOpening.{failed_later, opening_cause}
use Rattle.tile_audit.specs.declared.stop.AuditStop.{AuditStop}
use Rattle.tile_audit.specs.declared.stop.AuditStop.TheVariants as cut
use Rattle.tile_audit.specs.Served.{Served}
use Rattle.tile_audit.proofs.Still.{still_contents, still_join}
use Rattle.audit_cli.specs.Names.{End, audit_stop_of, end_of_counts, with_store}
use Rattle.audit_cli.specs.Opening.{IsOpened, OpeningStops, files_at}
use Rattle.audit_cli.specs.Run.{OnlyRead}
use Rattle.audit_cli.specs.declared.refusal.Refusal.{Refusal}
use Rattle.audit_cli.specs.declared.refusal.Refusal.TheVariants.{Damaged}
use Rattle.audit_cli.proofs.Opened.{index_of, unopened}

-- ---- causes

store_volume : (stop : Stop StoreRefusal) → with_store stop ≡ Volume → stop ≡ Volume
store_volume Usage is = absurd (let bad : ⊥ = cc in bad)
store_volume Source is = absurd (let bad : ⊥ = cc in bad)
store_volume Output is = absurd (let bad : ⊥ = cc in bad)
store_volume Volume is = refl
store_volume OutOfMemory is = absurd (let bad : ⊥ = cc in bad)
store_volume (Refused refusal) is = absurd (let bad : ⊥ = cc in bad)

-- an opening that the store refuses
pub open_cause : (fault : StoreFault) (old new : ℕ) → OpenFails fault → FaultFrom fault old new → IsCause (with_store (stop_of fault) ≡ Volume) old new
open_cause fault old new fails from = caused (stop_of fault ≡ Volume) (with_store (stop_of fault) ≡ Volume) old new (λ is. ap with_store is) (λ is. store_volume (stop_of fault) is) (opening_cause fault old new (inr fails) from)

-- an opening that stops never has the output's failure
pub stops_no_output : (told : Bool) (h : History) (stop : Stop Refusal) → OpeningStops (files_of told h) stop → stop ≡ Output → ⊥
stops_no_output told h stop stops is = let here : OpeningStops (files_of told h) Output = subst (OpeningStops (files_of told h)) is stops in here

-- an audit ends so exactly where its output failed
pub output_there : (stop : AuditStop) → stop ≡ cut.Output → audit_stop_of stop ≡ Output
output_there stop is = ap audit_stop_of is

pub output_back : (stop : AuditStop) → audit_stop_of stop ≡ Output → stop ≡ cut.Output
output_back cut.Output is = refl
output_back cut.OutOfMemory is = absurd (let bad : ⊥ = cc in bad)

-- one that went through does not
pub counts_no_output : (damaged tiles : ℕ) → end_of_counts damaged tiles ≡ Err Output → ⊥
counts_no_output damaged tiles is = by (damaged == 0) is
  where
    by : (test : Bool) → ◌≡◌ {A = End} (if test then Ok tt else Err (Refused (Damaged damaged tiles))) (Err Output) → ⊥
    by true is = (let bad : ⊥ = cc in bad)
    by false is = (let bad : ⊥ = cc in bad)

-- ---- the volume

-- the same cause in other words
pub reads_as : {V : Type 0} (tells : V → Bool) (history : V → History) (faults : V → ℕ) (P Q : Type 0) (old new : V) → (P → Q) → (Q → P) → OnlyReads tells history faults (IsCause P) old new → OnlyReads tells history faults (IsCause Q) old new
reads_as tells history faults P Q old new there back is = record { same = is.same; counted = caused P Q (faults old) (faults new) there back is.counted; during = is.during }

-- it did not fail, and was read once more
pub reads_on : {V : Type 0} (tells : V → Bool) (history : V → History) (faults : V → ℕ) (P Q : Type 0) (old mid new : V) → (P → ⊥) → OnlyReads tells history faults (IsCause P) old mid → OnlyReads tells history faults (IsCause Q) mid new
    → OnlyReads tells history faults (IsCause Q) old new
reads_on tells history faults P Q old mid new never first second = record {
  same = second.same ∙ first.same;
  counted = record {
    counts = omega (arith, first.counted.counts, second.counted.counts);
    failed = λ q. failed_later (faults old) (faults mid) (faults new) first.counted.counts (second.counted.failed q);
    rose = λ rose. elim (cases_lt (faults old) (faults mid)) [ inl before ↦ absurd (never (first.counted.rose before)) | inr after ↦ second.counted.rose (omega (arith, after, rose)) ];
  };
  during = λ t. still_join (history old) (history mid) (history new) (first.during t) (second.during (first.same ∙ t));
}

-- a volume that did not fail has the same count
pub same_count : (P : Type 0) (old new : ℕ) → (P → ⊥) → IsCause P old new → new ≡ old
same_count P old new never cause = by (cases_lt old new)
  where
    by : (old < new) ⊎ (new ≤ old) → new ≡ old
    by (inl rose) = absurd (never (cause.rose rose))
    by (inr not) = omega (arith, not, cause.counts)

-- ---- opening

same_bundle : {V : Type 0} (tells : V → Bool) (history : V → History) (faults : V → ℕ) (P Q : ℕ → ℕ → Type 0) (old one two : V) → OnlyReads tells history faults P old one → OnlyReads tells history faults Q one two → IsTrue (tells old)
    → contents Bundle (history two) ≡ contents Bundle (history old)
same_bundle tells history faults P Q old one two first second t =
    still_contents (history one) (history two) (second.during (first.same ∙ t)) ∙ still_contents (history old) (history one) (first.during t)

-- the journal does not count, the bundle has so many bytes, and the session was opened on it
pub opened_so : {V : Type 0} (tells : V → Bool) (history : V → History) (faults : V → ℕ) (P Q : ℕ → ℕ → Type 0) (s : SessionState) (size : ℕ) (old one two : V) → (IsTrue (tells old) → ¬ IsOpen (contents Journal (history old)))
    → OnlyReads tells history faults P old one → OnlyReads tells history faults Q one two → (IsTrue (tells one) → (0 < size) × (size ≡ length (contents Bundle (history one)))) → (IsTrue (tells two) → Serves s (contents Bundle (history two))) → IsTrue (tells old)
    → IsOpened s size (files_at (history old))
opened_so tells history faults P Q s size old one two closed first second sized ok t =
    let there : IsTrue (tells one) = first.same ∙ t in
    let serves : Serves s (contents Bundle (history old)) = subst (Serves s) (same_bundle tells history faults P Q old one two first second t) (ok (second.same ∙ there)) in
    let long : size ≡ length (contents Bundle (history old)) = (sized there).1 ∙ ap length (still_contents (history old) (history one) (first.during t)) in
    record { may = record { closed = closed t; index = index_of (contents Bundle (history old)) serves.opens (omega (arith, long, (sized there).0)) }; serves = serves; size_is = long }

-- the store refuses to open it
pub unopened_so : {V : Type 0} (tells : V → Bool) (history : V → History) (faults : V → ℕ) (P Q : ℕ → ℕ → Type 0) (fault : StoreFault) (size : ℕ) (old one two : V) → (IsTrue (tells old) → ¬ IsOpen (contents Journal (history old)))
    → OnlyReads tells history faults P old one → OnlyReads tells history faults Q one two → (IsTrue (tells one) → (0 < size) × (size ≡ length (contents Bundle (history one)))) → (IsTrue (tells two) → OpenRefuses (contents Bundle (history two)) fault) → OpenFails fault
    → OpeningStops (files_of (tells old) (history old)) (with_store (stop_of fault))
unopened_so tells history faults P Q fault size old one two closed first second sized refuses fails =
    unopened (tells old) (history old) (history two) fault closed (same_bundle tells history faults P Q old one two first second)
    (λ t. (let there : IsTrue (tells one) = first.same ∙ t in let long = ap length (still_contents (history one) (history two) (second.during there)) in omega (arith, long, (sized there).0, (sized there).1)))
    (λ t. refuses (second.same ∙ first.same ∙ t)) fails

-- what holds of the bundle as it was opened holds of it where the volume was only read since
pub served_so : {V : Type 0} (tells : V → Bool) (history : V → History) (s : SessionState) (size : ℕ) (old new : V) → s.stopped ≡ false → (IsTrue (tells old) → IsOpened s size (files_at (history old))) → tells new ≡ tells old
    → (IsTrue (tells old) → During (λ d. d ≡ current (history old)) (history old) (history new)) → Served tells history s size new
served_so tells history s size old new running opened same still = record {
  serving = record {
    running = running;
    serves = λ t. (let o : IsTrue (tells old) = sym same ∙ t in subst (Serves s) (sym (still_contents (history old) (history new) (still o))) (opened o).serves);
  };
  size_is = λ t. (let o : IsTrue (tells old) = sym same ∙ t in (opened o).size_is ∙ ap length (sym (still_contents (history old) (history new) (still o))));
}

-- it was read alone, and then once more
pub both_read : {V : Type 0} (tells : V → Bool) (history : V → History) (faults : V → ℕ) (P : Type 0) (old mid new : V) → OnlyReads tells history faults (IsCause P) old mid → OnlyReads tells history faults (λ f n. f ≤ n) mid new
    → OnlyRead (volume_move tells history faults old new)
both_read tells history faults P old mid new first second = record {
  told = second.same ∙ first.same;
  counts = omega (arith, first.counted.counts, second.counted);
  during = λ t. still_join (history old) (history mid) (history new) (first.during t) (second.during (first.same ∙ t));
}
