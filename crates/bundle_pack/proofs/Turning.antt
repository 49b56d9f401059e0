-- The sources are recovered and opened one after the other.
use Rattle.std.proofs.Common.{◌≡◌, ◌≢◌, inl, inr, ℕ, ◌+◌, ◌<◌, List, [], ◌∷◌, ◌++◌, length, slice_get, slice_set, Some, None, Result, Err, Bool, false, IsTrue, refl, sym, ap, subst, ◌∙◌, arith}
use Rattle.std.specs.Prelude.{All}
use Rattle.std.proofs.lemmas.Bool.{cases_lt}
use Rattle.std.proofs.lemmas.List.{length-map}
use Rattle.std.proofs.lemmas.Option.{slice_get_within}
use Rattle.outside_io.specs.declared.volume.VolFile.TheVariants.{Bundle}
use Rattle.outside_io.specs.streams.Faults.{IsCause}
use Rattle.outside_io.specs.volume.History.{History, contents, current}
use Rattle.bundle_store.specs.declared.fault.StoreFault.{StoreFault}
use Rattle.bundle_store.specs.declared.fault.StoreFault.TheVariants.{Device, BadBundle, BadJournal, NoTile, Beyond, TileTooLarge, EmptyTile, Full, NotEmpty, OutOfMemory, Stopped}
use Rattle.bundle_store.specs.Causes.{FaultFrom, OnCause}
use Rattle.bundle_store.specs.Session.{Serves, SessionState}
use Rattle.opened_bundle.specs.Files.{Files}
use Rattle.opened_bundle.specs.Left.{IsShut}
use Rattle.bundle_pack.specs.Files.{all_bundles, all_files, files_in}
use Rattle.bundle_pack.specs.Opening.{AreOpened, OpensAs, StandsLeft}
use Rattle.bundle_pack.specs.Refusals.{source_fault_of}
use Rattle.bundle_pack.specs.Sources.{DeviceAt, Each, EachShut, IsServing, OpenedBefore, RecoversAlone, SourceMoves}
use Rattle.bundle_pack.specs.declared.fault.PackFault.{PackFault}
use Rattle.bundle_pack.specs.declared.fault.PackFault.TheVariants.{Source, OutOfMemory as NoMemory}
use Rattle.bundle_pack.specs.inside.Turns.{IsTurn, IsTurned, OpenSays, OpeningSays}
use Rattle.bundle_store.proofs.Refusals.{device_cause, unless_device}
use Rattle.opened_bundle.proofs.BundleOpening.{still}
use Rattle.bundle_pack.proofs.Telling.{by_source, cause_map}
use Rattle.bundle_pack.proofs.Volumes.{each_map, each_same, each_turn, from_map, get_before, get_pushed, get_some, map_at, one_some, told_at}

-- one source more is opened
pub turn_more : {V : Type 0} (told : V → Bool) (history : V → History) (faults : V → ℕ) (sessions : List SessionState) (at : ℕ) (old mid : List V) (x y : V) (s : SessionState)
    → length sessions ≡ at → slice_get mid at ≡ Some x → RecoversAlone told history x y → faults y ≡ faults x → IsTurned told history s x y
    → Each (IsTurn told history faults sessions at) old mid → Each (IsTurn told history faults (sessions ++ s ∷ []) (at + 1)) old (slice_set mid at y)
turn_more told history faults sessions at old mid x y s size there kept count turned so =
    each_turn (IsTurn told history faults sessions at) (IsTurn told history faults (sessions ++ s ∷ []) (at + 1)) old mid at x y so there
    (λ v was p. let e : x ≡ v = p.rest (omega arith) in record {
      kept = subst (λ a. RecoversAlone told history a y) e kept;
      count = count ∙ ap faults e;
      turned = λ _. (s, (ap (slice_get (sessions ++ s ∷ [])) (sym size) ∙ get_pushed sessions s, subst (λ a. IsTurned told history s a y) e turned));
      rest = λ le. absurd (omega (arith, le));
    })
    (λ i v w other p. record {
      kept = p.kept;
      count = p.count;
      turned = λ less. let t = p.turned (omega (arith, less, other)) in (t.0, (get_before sessions (s ∷ []) i (slice_get_within sessions i t.0 t.1.0) ∙ t.1.0, t.1.1));
      rest = λ le. p.rest (omega (arith, le));
    })

-- before the first
pub turn_none : {V : Type 0} (told : V → Bool) (history : V → History) (faults : V → ℕ) (vs : List V) → ((i : ℕ) (v : V) → RecoversAlone told history v v) → Each (IsTurn told history faults [] 0) vs vs
turn_none told history faults vs keeps = each_same (IsTurn told history faults [] 0) vs (λ i v. record { kept = keeps i v; count = refl; turned = λ less. absurd (omega (arith, less)); rest = λ le. refl })

-- all were opened
pub turns_serve : {V : Type 0} (told : V → Bool) (history : V → History) (faults : V → ℕ) (sessions : List SessionState) (at : ℕ) (old new : List V)
    → length sessions ≡ at → at ≡ length old → Each (IsTurn told history faults sessions at) old new → IsServing told history sessions new
turns_serve told history faults sessions at old new size end so = record {
  many = size ∙ end ∙ sym so.many;
  each = λ i s w first then.
      let v = get_some old i (omega (arith, end, size, slice_get_within sessions i s first)) in
      let p = so.each i v.0 w v.1 then in
      let t = p.turned (omega (arith, end, slice_get_within old i v.0 v.1)) in
      let same : t.0 ≡ s = one_some t.0 s (sym t.1.0 ∙ first) in
      subst (λ (a : SessionState). (a.stopped ≡ false) × (IsTrue (told w) → Serves a (contents Bundle (history w)))) same
      (t.1.1.running, λ tells. (t.1.1.opens (subst (λ b. IsTrue b) p.kept.told_same tells)).1);
}

pub turns_open : {V : Type 0} (told : V → Bool) (history : V → History) (faults : V → ℕ) (sessions : List SessionState) (at : ℕ) (old new : List V)
    → at ≡ length old → All (λ v. IsTrue (told v)) old → Each (IsTurn told history faults sessions at) old new → AreOpened (all_files history old) (all_bundles history new)
turns_open told history faults sessions at old new end all so = record {
  many = length-map new (λ v. contents Bundle (history v)) ∙ so.many ∙ sym (length-map old (λ v. files_in (history v)));
  each = λ i f b first then.
      let v = from_map (λ v. files_in (history v)) old i f first in
      let w = from_map (λ v. contents Bundle (history v)) new i b then in
      let p = so.each i v.0 w.0 v.1.0 w.1.0 in
      let t = p.turned (omega (arith, end, slice_get_within old i v.0 v.1.0)) in
      let opens = (t.1.1.opens (told_at told old i v.0 all v.1.0)).0 in
      subst (λ (g : Files). OpensAs g b) (sym v.1.1) (subst (λ (c : List ℕ). OpensAs (files_in (history v.0)) c) (sym w.1.1) opens);
}

-- no source failed
pub turns_moved : {V X : Type 0} (told : V → Bool) (history : V → History) (faults : V → ℕ) (sessions : List SessionState) (at : ℕ) (old new : List V) (result : Result X PackFault)
    → at ≡ length old → ((i : ℕ) → DeviceAt result i → ⊥) → Each (IsTurn told history faults sessions at) old new → Each (λ i v w. SourceMoves told history faults (DeviceAt result i) v w) old new
turns_moved told history faults sessions at old new result end never so =
    each_map (IsTurn told history faults sessions at) (λ i v w. SourceMoves told history faults (DeviceAt result i) v w) old new
    (λ i v w less p. record {
      kept = p.kept;
      bundle = λ tells _. inl ((p.turned (omega (arith, end, less))).1.1.left tells);
      cause = still (DeviceAt result i) (faults v) (faults w) p.count (never i);
    }) so

-- all were opened, so all are shut
pub turns_shut : {V : Type 0} (told : V → Bool) (history : V → History) (faults : V → ℕ) (sessions : List SessionState) (at : ℕ) (old new : List V)
    → at ≡ length old → Each (IsTurn told history faults sessions at) old new → Each (λ i v w. Unit {0} → IsTrue (told v) → IsShut (current (history w))) old new
turns_shut told history faults sessions at old new end so =
    each_map (IsTurn told history faults sessions at) (λ i v w. Unit {0} → IsTrue (told v) → IsShut (current (history w))) old new
    (λ i v w less p was tells. (p.turned (omega (arith, end, less))).1.1.shut tells) so

-- the fault of a source says that those before it were opened
before_it : (at i : ℕ) (fault : StoreFault) → OpenedBefore (source_fault_of at fault) i → i < at
before_it at i fault = by_source at (λ f told. OpenedBefore told i → i < at) (λ was. absurd was) (λ f was. was) fault

pub failed_shut : {V : Type 0} (X : Type 0) (told : V → Bool) (history : V → History) (faults : V → ℕ) (sessions : List SessionState) (at : ℕ) (old mid : List V) (x y : V) (fault : StoreFault)
    → slice_get mid at ≡ Some x → Each (IsTurn told history faults sessions at) old mid → EachShut {X = X} told history (Err (source_fault_of at fault)) old (slice_set mid at y)
failed_shut X told history faults sessions at old mid x y fault there so =
    each_turn (IsTurn told history faults sessions at) (λ i v w. OpenedBefore (source_fault_of at fault) i → IsTrue (told v) → IsShut (current (history w))) old mid at x y so there
    (λ v first p was tells. absurd (let less : at < at = before_it at at fault was in omega (arith, less)))
    (λ i v w other p was tells. (p.turned (before_it at i fault was)).1.1.shut tells)

-- of want of memory nothing is said
pub stopped_shut : {V : Type 0} (X : Type 0) (told : V → Bool) (history : V → History) (faults : V → ℕ) (sessions : List SessionState) (at : ℕ) (old mid : List V) (x y : V)
    → slice_get mid at ≡ Some x → Each (IsTurn told history faults sessions at) old mid → EachShut {X = X} told history (Err NoMemory) old (slice_set mid at y)
stopped_shut X told history faults sessions at old mid x y there so =
    each_turn (IsTurn told history faults sessions at) (λ i v w. ⊥ → IsTrue (told v) → IsShut (current (history w))) old mid at x y so there
    (λ v first p was tells. absurd was)
    (λ i v w other p was tells. absurd was)

-- no other source failed
other_fault : (at i : ℕ) (fault : StoreFault) → at ≢ i → source_fault_of at fault ≡ Source i None Device → ⊥
other_fault at i fault differs = by_source at (λ f told. told ≡ Source i None Device → ⊥) (λ is. absurd cc) (λ f is. differs cc) fault

-- the count of the source that was opened last, which refuses
this_cause : (at : ℕ) (fault : StoreFault) (old new : ℕ) → FaultFrom fault old new → IsCause (source_fault_of at fault ≡ Source at None Device) old new
this_cause at fault old new =
    by_source at (λ f told. FaultFrom f old new → IsCause (told ≡ Source at None Device) old new) (λ same. still _ old new same (λ is. absurd cc))
    (λ f from. cause_map (f ≡ Device) (Source at None f ≡ Source at None Device) old new (ap (Source at None)) (λ is. let same : f ≡ Device = cc in same) (device_cause f old new from)) fault

-- what holds of a cause but the failure of the source
unless_failed : (at : ℕ) (fault : StoreFault) (P : Type 0) → OnCause fault P → (source_fault_of at fault ≡ Source at None Device → ⊥) → P
unless_failed at fault P =
    by_source at (λ f told. OnCause f P → (told ≡ Source at None Device → ⊥) → P) (λ on never. on) (λ f on never. unless_device f P on (λ is. never (ap (Source at None) is))) fault

err_same : {X : Type 0} (f g : PackFault) (a b : Result X PackFault) → a ≡ Err f → b ≡ Err g → a ≡ b → f ≡ g
err_same f g a b ea eb e = cc

err_up : {X : Type 0} (f g : PackFault) (a : Result X PackFault) → a ≡ Err f → f ≡ g → a ≡ Err g
err_up f g a ea e = ea ∙ ap Err e

-- the cause, where it is said of the answer
cause_of : {X : Type 0} (a : Result X PackFault) (f g : PackFault) (old new : ℕ) → a ≡ Err f → IsCause (f ≡ g) old new → IsCause (a ≡ Err g) old new
cause_of a f g old new is cause = record {
  counts = cause.counts;
  failed = λ e. cause.failed (err_same f g a (Err g) is refl e);
  rose = λ more. err_up f g a is (cause.rose more);
}

-- one source refuses
pub turn_fails : {V X : Type 0} (told : V → Bool) (history : V → History) (faults : V → ℕ) (sessions : List SessionState) (at : ℕ) (old mid : List V) (x y : V) (fault : StoreFault) (result : Result X PackFault)
    → result ≡ Err (source_fault_of at fault) → slice_get mid at ≡ Some x → RecoversAlone told history x y → FaultFrom fault (faults x) (faults y) → (IsTrue (told x) → OnCause fault (StandsLeft (history x) (history y)))
    → Each (IsTurn told history faults sessions at) old mid → Each (λ i v w. SourceMoves told history faults (DeviceAt result i) v w) old (slice_set mid at y)
turn_fails told history faults sessions at old mid x y fault result is there kept from left so =
    each_turn (IsTurn told history faults sessions at) (λ i v w. SourceMoves told history faults (DeviceAt result i) v w) old mid at x y so there
    (λ v was p.
    let e : x ≡ v = p.rest (omega arith) in
    let moved : SourceMoves told history faults (DeviceAt result at) x y = record {
      kept = kept;
      bundle = λ tells never. inl (unless_failed at fault (StandsLeft (history x) (history y)) (left tells) (λ f. never (err_up (source_fault_of at fault) (Source at None Device) result is f)));
      cause = cause_of result (source_fault_of at fault) (Source at None Device) (faults x) (faults y) is (this_cause at fault (faults x) (faults y) from);
    } in
    subst (λ a. SourceMoves told history faults (DeviceAt result at) a y) e moved)
    (λ i v w other p. record {
      kept = p.kept;
      bundle = λ tells never. elim (cases_lt i at) [
        | inl less ↦ inl ((p.turned less).1.1.left tells)
        | inr past ↦ inr (ap (λ a. contents Bundle (history a)) (p.rest past))
      ];
      cause = still (DeviceAt result i) (faults v) (faults w) p.count (λ f. other_fault at i fault (λ same. other (sym same)) (err_same (source_fault_of at fault) (Source i None Device) result (Err (Source i None Device)) is refl f));
    })

-- memory is refused behind the opening of one
pub turn_stops : {V X : Type 0} (told : V → Bool) (history : V → History) (faults : V → ℕ) (sessions : List SessionState) (at : ℕ) (old mid : List V) (x y : V) (s : SessionState) (result : Result X PackFault)
    → result ≡ Err NoMemory → slice_get mid at ≡ Some x → RecoversAlone told history x y → faults y ≡ faults x → (IsTrue (told x) → StandsLeft (history x) (history y))
    → Each (IsTurn told history faults sessions at) old mid → Each (λ i v w. SourceMoves told history faults (DeviceAt result i) v w) old (slice_set mid at y)
turn_stops told history faults sessions at old mid x y s result is there kept count left so =
    let never : (i : ℕ) → DeviceAt result i → ⊥ = λ i e. absurd (no_failure i (err_same NoMemory (Source i None Device) result (Err (Source i None Device)) is refl e)) in
    each_turn (IsTurn told history faults sessions at) (λ i v w. SourceMoves told history faults (DeviceAt result i) v w) old mid at x y so there
    (λ v was p.
    let e : x ≡ v = p.rest (omega arith) in
    let moved : SourceMoves told history faults (DeviceAt result at) x y = record {
      kept = kept;
      bundle = λ tells _. inl (left tells);
      cause = still (DeviceAt result at) (faults x) (faults y) count (never at);
    } in
    subst (λ a. SourceMoves told history faults (DeviceAt result at) a y) e moved)
    (λ i v w other p. record {
      kept = p.kept;
      bundle = λ tells _. elim (cases_lt i at) [
        | inl less ↦ inl ((p.turned less).1.1.left tells)
        | inr past ↦ inr (ap (λ a. contents Bundle (history a)) (p.rest past))
      ];
      cause = still (DeviceAt result i) (faults v) (faults w) p.count (never i);
    })
  where
    no_failure : (i : ℕ) → NoMemory ≡ Source i None Device → ⊥
    no_failure i e = absurd cc

-- the first that does not open
first_of : (X : Type 0) (at : ℕ) (files : List Files) (file : Files) (fault : StoreFault) (bundles : List (List ℕ)) (left : List ℕ) → slice_get files at ≡ Some file → ((i : ℕ) (f : Files) → i < at → slice_get files i ≡ Some f → (b : List ℕ) × OpensAs f b)
    → OpenSays file (Err fault) left → OpeningSays {X = X} files (Err (source_fault_of at fault)) bundles
first_of X at files file Device bundles left there before says = record { file = file; there = there; fails = says; before = before }
first_of X at files file (BadBundle place found) bundles left there before says = record { file = file; there = there; fails = says; before = before }
first_of X at files file (BadJournal place found) bundles left there before says = record { file = file; there = there; fails = says; before = before }
first_of X at files file NoTile bundles left there before says = absurd says
first_of X at files file (Beyond entry got) bundles left there before says = absurd says
first_of X at files file (TileTooLarge place len) bundles left there before says = absurd says
first_of X at files file (EmptyTile place) bundles left there before says = absurd says
first_of X at files file (Full len) bundles left there before says = absurd says
first_of X at files file (NotEmpty len) bundles left there before says = absurd says
first_of X at files file OutOfMemory bundles left there before says = tt
first_of X at files file Stopped bundles left there before says = absurd says

-- the first that does not open, those before it being opened
pub first_unopened : {V : Type 0} (X : Type 0) (told : V → Bool) (history : V → History) (faults : V → ℕ) (sessions : List SessionState) (at : ℕ) (old mid : List V) (x : V) (fault : StoreFault) (bundles : List (List ℕ)) (left : List ℕ)
    → All (λ v. IsTrue (told v)) old → slice_get mid at ≡ Some x → Each (IsTurn told history faults sessions at) old mid → (IsTrue (told x) → OpenSays (files_in (history x)) (Err fault) left)
    → OpeningSays {X = X} (all_files history old) (Err (source_fault_of at fault)) bundles
first_unopened X told history faults sessions at old mid x fault bundles left all there so says =
    let v = get_some old at (omega (arith, so.many, slice_get_within mid at x there)) in
    let same : x ≡ v.0 = (so.each at v.0 x v.1 there).rest (omega arith) in
    let tells : IsTrue (told x) = subst (λ a. IsTrue (told a)) (sym same) (told_at told old at v.0 all v.1) in
    let file : slice_get (all_files history old) at ≡ Some (files_in (history x)) = map_at (λ a. files_in (history a)) old at v.0 v.1 ∙ ap (λ a. Some (files_in (history a))) (sym same) in
    first_of X at (all_files history old) (files_in (history x)) fault bundles left file (λ i f less is.
    let u = from_map (λ a. files_in (history a)) old i f is in
    let w = get_some mid i (omega (arith, so.many, slice_get_within old i u.0 u.1.0)) in
    let t = (so.each i u.0 w.0 u.1.0 w.1).turned less in
    let opens : OpensAs (files_in (history u.0)) (contents Bundle (history w.0)) = (t.1.1.opens (told_at told old i u.0 all u.1.0)).0 in
    (contents Bundle (history w.0), subst (λ (g : Files). OpensAs g (contents Bundle (history w.0))) (sym u.1.1) opens)) (says tells)
