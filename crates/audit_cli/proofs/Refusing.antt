-- Files have one refusal at most, and none where they may be audited.
use Rattle.std.proofs.Common.{◌≡◌, ◌≢◌, inr, ℕ, ◌==◌, nat_lt, Bool, true, false, List, [], length, Option, Some, None, Ok, Err, if◌then◌else◌, refl, sym, ap, subst, ◌∙◌, arith}
use Rattle.std.specs.Prelude.{IsTrue}
use Rattle.std.proofs.lemmas.Bool.Decides.{nat_tests}
use Rattle.outside_io.specs.volume.History.{History}
use Rattle.bundle_index.specs.Header.{header_fault}
use Rattle.bundle_index.specs.declared.header.HeaderFault.{HeaderFault}
use Rattle.bundle_store.specs.Session.{open_fault}
use Rattle.opened_bundle.specs.Files.{Files, files_of}
use Rattle.opened_bundle.specs.declared.refusal.StoreRefusal.TheVariants.{BadBundle, BadJournal, Beyond, Full, NoTile, NotEmpty}
use Rattle.opened_bundle.proofs.OneBundle.{opens_or_fault}
use Rattle.side_journal.specs.declared.body.JournalState.{JournalState}
use Rattle.side_journal.specs.declared.body.JournalState.TheVariants as state
use Rattle.side_journal.proofs.OneState.{one_state}
use Rattle.program_ends.specs.Moves.{SinkMove, VolumeMove}
use Rattle.program_ends.specs.declared.stop.Stop.TheVariants.{Usage, Source, Output, Volume, OutOfMemory, Refused}
use Rattle.audit_cli.specs.Names.{End, refusal_status}
use Rattle.audit_cli.specs.Opening.{IsAuditable, IsRefused, Refuses, files_at}
use Rattle.audit_cli.specs.Run.{OfEnd}
use Rattle.audit_cli.specs.declared.command.Command.{Command}
use Rattle.audit_cli.specs.declared.refusal.Refusal.{Refusal}
use Rattle.audit_cli.specs.declared.refusal.Refusal.TheVariants.{Damaged, JournalOpen, NoBundle, Store}

no_fault : (b : List ℕ) → b ≡ [] → open_fault b ≡ None
no_fault b none =
    let empty : length b ≡ 0 = ap length none in
    let test : (length b == 0) ≡ true = grind (arith, nat_tests) in
    ap (λ (t : Bool). if t then None else (if nat_lt (length b) 131136 then Some (let r : HeaderFault = record { place = length b; found = length b } in r) else header_fault b)) test

fault_place : Option HeaderFault → ℕ
fault_place None = 0
fault_place (Some f) = f.place

fault_number : Option HeaderFault → ℕ
fault_number None = 0
fault_number (Some f) = f.found

state_place : JournalState → ℕ
state_place (state.Bad place number) = place
state_place _ = 0

state_number : JournalState → ℕ
state_number (state.Bad place number) = number
state_number _ = 0

some_fault : (b : List ℕ) (place number : ℕ) → open_fault b ≡ Some (record { place = place; found = number }) → b ≡ [] → ⊥
some_fault b place number is none = let clash : ◌≡◌ {A = Option HeaderFault} (Some (record { place = place; found = number })) None = sym is ∙ no_fault b none in cc

pub one_refused : (f : Files) (r s : Refusal) → IsRefused f r → IsRefused f s → r ≡ s
unfolding fault_place fault_number state_place state_number
one_refused f (Store (BadJournal place number)) (Store (BadJournal at other)) x y =
    let e = one_state f.journal (state.Bad place number) (state.Bad at other) x y in
    let p : place ≡ at = ap state_place e in
    let q : number ≡ other = ap state_number e in
    λ i. Store (BadJournal (p i) (q i))
one_refused f (Store (BadJournal place number)) JournalOpen x (body, y) = absurd (let e = one_state f.journal (state.Bad place number) (state.Open body) x y in cc)
one_refused f (Store (BadJournal place number)) NoBundle x y = absurd (y.0 x.0)
one_refused f (Store (BadJournal place number)) (Store (BadBundle at other)) x y = absurd (y.0 x.0)
one_refused f JournalOpen (Store (BadJournal place number)) (body, x) y = absurd (let e = one_state f.journal (state.Open body) (state.Bad place number) x y in cc)
one_refused f JournalOpen JournalOpen x y = refl
one_refused f JournalOpen NoBundle (body, x) y = absurd (y.0 x.0)
one_refused f JournalOpen (Store (BadBundle at other)) (body, x) y = absurd (y.0 x.0)
one_refused f NoBundle (Store (BadJournal place number)) x y = absurd (x.0 y.0)
one_refused f NoBundle JournalOpen x (body, y) = absurd (x.0 y.0)
one_refused f NoBundle NoBundle x y = refl
one_refused f NoBundle (Store (BadBundle at other)) x y = absurd (some_fault f.bundle at other y.1 x.1)
one_refused f (Store (BadBundle place number)) (Store (BadJournal at other)) x y = absurd (x.0 y.0)
one_refused f (Store (BadBundle place number)) JournalOpen x (body, y) = absurd (x.0 y.0)
one_refused f (Store (BadBundle place number)) NoBundle x y = absurd (some_fault f.bundle place number x.1 y.1)
one_refused f (Store (BadBundle place number)) (Store (BadBundle at other)) x y =
    let e = sym x.1 ∙ y.1 in
    let p : place ≡ at = ap fault_place e in
    let q : number ≡ other = ap fault_number e in
    λ i. Store (BadBundle (p i) (q i))
one_refused f (Damaged damaged tiles) s x y = absurd x
one_refused f (Store (NoTile row col)) s x y = absurd x
one_refused f (Store (Beyond row col entry got)) s x y = absurd x
one_refused f (Store (NotEmpty len)) s x y = absurd x
one_refused f (Store (Full len)) s x y = absurd x
one_refused f r (Damaged damaged tiles) x y = absurd y
one_refused f r (Store (NoTile row col)) x y = absurd y
one_refused f r (Store (Beyond row col entry got)) x y = absurd y
one_refused f r (Store (NotEmpty len)) x y = absurd y
one_refused f r (Store (Full len)) x y = absurd y

pub audited_or_refused : (f : Files) (r : Refusal) → IsAuditable f → IsRefused f r → ⊥
audited_or_refused f (Store (BadJournal place number)) may x = may.closed x.0
audited_or_refused f JournalOpen may (body, x) = may.closed x.0
audited_or_refused f NoBundle may x = let none : length f.bundle ≡ 0 = ap length x.1 in let long = may.index.long in omega (arith, none, long)
audited_or_refused f (Store (BadBundle place number)) may x = opens_or_fault f.bundle (record { place = place; found = number }) (inr may.index) x.1
audited_or_refused f (Damaged damaged tiles) may x = absurd x
audited_or_refused f (Store (NoTile row col)) may x = absurd x
audited_or_refused f (Store (Beyond row col entry got)) may x = absurd x
audited_or_refused f (Store (NotEmpty len)) may x = absurd x
audited_or_refused f (Store (Full len)) may x = absurd x

-- the files of a volume that tells them
pub told_files : (told : Bool) (h : History) → IsTrue told → files_of told h ≡ Some (files_at h)
told_files true h tells = refl
told_files false h tells = absurd (let bad : ⊥ = cc in bad)

same_refusal : (vol : VolumeMove) (r s : Refusal) → IsTrue vol.told.old → IsRefused (files_at vol.history.old) r → Refuses (files_of vol.told.old vol.history.old) s → s ≡ r
same_refusal vol r s tells is refuses =
    let there : Refuses (Some (files_at vol.history.old)) s = subst (λ o. Refuses o s) (told_files vol.told.old vol.history.old tells) refuses in
    one_refused (files_at vol.history.old) s r there.1 is

-- where a refusal holds, the run ends with it, unless the volume failed
pub refused_so : (c : Command) (end : End) (vol : VolumeMove) (out : SinkMove) (r : Refusal) → OfEnd c end vol out → IsTrue vol.told.old → IsRefused (files_at vol.history.old) r → end ≢ Err Volume → (end ≡ Err (Refused r)) × out.same
refused_so c (Ok u) vol out r did tells is well = absurd (audited_or_refused (files_at vol.history.old) r (did.may tells) is)
refused_so c (Err Output) vol out r did tells is well = absurd (audited_or_refused (files_at vol.history.old) r (did.0 tells) is)
refused_so c (Err OutOfMemory) vol out r did tells is well = absurd (audited_or_refused (files_at vol.history.old) r (did.0 tells) is)
refused_so c (Err Volume) vol out r did tells is well = absurd (well refl)
refused_so c (Err (Refused (Damaged damaged tiles))) vol out r did tells is well = absurd (audited_or_refused (files_at vol.history.old) r (did.may tells) is)
refused_so c (Err (Refused JournalOpen)) vol out r did tells is well = (ap (λ x. Err (Refused x)) (same_refusal vol r JournalOpen tells is did.0), did.1)
refused_so c (Err (Refused NoBundle)) vol out r did tells is well = (ap (λ x. Err (Refused x)) (same_refusal vol r NoBundle tells is did.0), did.1)
refused_so c (Err (Refused (Store refusal))) vol out r did tells is well = (ap (λ x. Err (Refused x)) (same_refusal vol r (Store refusal) tells is did.0), did.1)
refused_so c (Err Usage) vol out r did tells is well = absurd did
refused_so c (Err Source) vol out r did tells is well = absurd did

-- the status of a refusal of the files
pub seven_of : (f : Files) (r : Refusal) → IsRefused f r → refusal_status r ≡ 7
seven_of f (Store refusal) is = refl
seven_of f JournalOpen is = refl
seven_of f NoBundle is = refl
seven_of f (Damaged damaged tiles) is = absurd is
