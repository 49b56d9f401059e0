-- What the end of a run tells of packing's answer, and its status of that end.
use Rattle.std.proofs.Common.{◌≡◌, ℕ, ◌<◌, ◌≤◌, ◌⊎◌, List, length, Option, Some, None, Result, Ok, Err, IfErr, refl, sym, ap, subst, ◌∙◌, inl, inr, arith}
use Rattle.outside_io.specs.streams.Faults.{FailedBetween, IsCause}
use Rattle.outside_io.specs.streams.Sink.{Holds}
use Rattle.bundle_store.specs.declared.fault.StoreFault.{StoreFault}
use Rattle.bundle_store.specs.declared.fault.StoreFault.TheVariants.{Device, BadBundle, BadJournal, NoTile, Beyond, TileTooLarge, EmptyTile, Full, NotEmpty, OutOfMemory, Stopped}
use Rattle.program_ends.specs.Moves.{Change, SinkMove}
use Rattle.program_ends.specs.Stop.{Gained, IsRefusalStatus}
use Rattle.program_ends.specs.declared.stop.Stop.{Stop}
use Rattle.program_ends.specs.declared.stop.Stop.TheVariants.{Usage, Source, Output, Volume, OutOfMemory as NoMemory, Refused}
use Rattle.program_ends.proofs.Ends as ends
use Rattle.bundle_pack.specs.declared.fault.PackFault.{PackFault}
use Rattle.bundle_pack.specs.declared.fault.PackFault.TheVariants.{Source as SourceFault, Target, KeptTooMuch, OutOfMemory as NoRoom}
use Rattle.bundle_pack.specs.declared.packing.PackReport.{PackReport}
use Rattle.bundle_pack.specs.declared.refusal.Refusal.{Refusal}
use Rattle.bundle_pack.specs.Names.{End, GivesLineOf, refusal_status, status_at, stop_of, store_stop_of}
use Rattle.bundle_pack.specs.Packing.{IsFree}
use Rattle.bundle_pack.specs.Opening.{OpeningFails}
use Rattle.bundle_pack.specs.Refusals.{PackFails}
use Rattle.bundle_pack.specs.Run.{EndsAs, EndsWith, IsVolumeCause, OfOutput, SomeFailed, end_for, gives}
use Rattle.bundle_pack.specs.Sources.{DeviceAt, Each}
use Rattle.bundle_pack.proofs.Volumes.{each_map, get_some}

pub own : (r : Refusal) → IsRefusalStatus (refusal_status r)
own r = inr (omega arith)

-- a stop that packing ends with: of the volumes, of memory, or a refusal
abbrev pub IsOfPacking : Stop Refusal → Type 0
IsOfPacking Usage = ⊥
IsOfPacking Source = ⊥
IsOfPacking Output = ⊥
IsOfPacking Volume = Unit {0}
IsOfPacking NoMemory = Unit {0}
IsOfPacking (Refused r) = Unit {0}

store_stops : (fault : StoreFault) → IsOfPacking (store_stop_of fault)
store_stops Device = tt
store_stops (BadBundle place found) = tt
store_stops (BadJournal place found) = tt
store_stops NoTile = tt
store_stops (Beyond entry got) = tt
store_stops (TileTooLarge at len) = tt
store_stops (EmptyTile at) = tt
store_stops (Full len) = tt
store_stops (NotEmpty len) = tt
store_stops OutOfMemory = tt
store_stops Stopped = tt

pub pack_stops : (fault : PackFault) → IsOfPacking (stop_of fault)
pack_stops (SourceFault at None fault) = store_stops fault
pack_stops (SourceFault at (Some slot) Device) = tt
pack_stops (SourceFault at (Some slot) (BadBundle place found)) = tt
pack_stops (SourceFault at (Some slot) (BadJournal place found)) = tt
pack_stops (SourceFault at (Some slot) NoTile) = tt
pack_stops (SourceFault at (Some slot) (Beyond entry got)) = tt
pack_stops (SourceFault at (Some slot) (TileTooLarge place len)) = tt
pack_stops (SourceFault at (Some slot) (EmptyTile place)) = tt
pack_stops (SourceFault at (Some slot) (Full len)) = tt
pack_stops (SourceFault at (Some slot) (NotEmpty len)) = tt
pack_stops (SourceFault at (Some slot) OutOfMemory) = tt
pack_stops (SourceFault at (Some slot) Stopped) = tt
pack_stops (Target fault) = store_stops fault
pack_stops (KeptTooMuch len) = tt
pack_stops NoRoom = tt

-- packing does not end as words that ask for nothing
pub never_usage : (answer : Result PackReport PackFault) (end : End) → EndsAs answer end → status_at end ≡ 1 → ⊥
never_usage answer end so one = none answer end so (ends.usage_at refusal_status own end one)
  where
    none : (answer : Result PackReport PackFault) (end : End) → EndsAs answer end → end ≡ Err Usage → ⊥
    none (Ok report) end so is = let here : EndsAs (Ok report) (Err Usage) = subst (EndsAs (Ok report)) is so in here
    none (Err fault) end so is =
        let here : EndsAs (Err fault) (Err Usage) = subst (EndsAs (Err fault)) is so in subst IsOfPacking (sym here) (pack_stops fault)

pub output_status : (end : End) (status old new : ℕ) → status ≡ status_at end → IsCause (end ≡ Err Output) old new → IsCause (status ≡ 4) old new
output_status end status old new is c = ends.output_status refusal_status own end status old new is c

-- ---- a volume that failed

opening_device : (fault : StoreFault) → OpeningFails fault → store_stop_of fault ≡ Volume → fault ≡ Device
opening_device Device fails is = refl
opening_device (BadBundle place found) fails is = absurd cc
opening_device (BadJournal place found) fails is = absurd cc
opening_device NoTile fails is = absurd fails
opening_device (Beyond entry got) fails is = absurd fails
opening_device (TileTooLarge at len) fails is = absurd fails
opening_device (EmptyTile at) fails is = absurd fails
opening_device (Full len) fails is = absurd fails
opening_device (NotEmpty len) fails is = absurd fails
opening_device OutOfMemory fails is = absurd fails
opening_device Stopped fails is = absurd fails

-- the source of some number failed, or the target did
abbrev pub IsDevice : ℕ → PackFault → Type 0
IsDevice count fault = ((i : ℕ) × ((i < count) × (fault ≡ SourceFault i None Device))) ⊎ (fault ≡ Target Device)

fault_device : (count : ℕ) (fault : PackFault) → PackFails count fault → stop_of fault ≡ Volume → IsDevice count fault
fault_device count (SourceFault at None fault) (less, fails) is = inl (at, (less, ap (SourceFault at None) (opening_device fault fails is)))
fault_device count (SourceFault at (Some slot) (Beyond entry got)) fails is = absurd cc
fault_device count (SourceFault at (Some slot) Device) (less, (below, bad)) is = absurd bad
fault_device count (SourceFault at (Some slot) (BadBundle place found)) (less, (below, bad)) is = absurd bad
fault_device count (SourceFault at (Some slot) (BadJournal place found)) (less, (below, bad)) is = absurd bad
fault_device count (SourceFault at (Some slot) NoTile) (less, (below, bad)) is = absurd bad
fault_device count (SourceFault at (Some slot) (TileTooLarge place len)) (less, (below, bad)) is = absurd bad
fault_device count (SourceFault at (Some slot) (EmptyTile place)) (less, (below, bad)) is = absurd bad
fault_device count (SourceFault at (Some slot) (Full len)) (less, (below, bad)) is = absurd bad
fault_device count (SourceFault at (Some slot) (NotEmpty len)) (less, (below, bad)) is = absurd bad
fault_device count (SourceFault at (Some slot) OutOfMemory) (less, (below, bad)) is = absurd bad
fault_device count (SourceFault at (Some slot) Stopped) (less, (below, bad)) is = absurd bad
fault_device count (Target (NotEmpty len)) fails is = absurd cc
fault_device count (Target Device) fails is = inr refl
fault_device count (Target (BadBundle place found)) fails is = absurd cc
fault_device count (Target (BadJournal place found)) fails is = absurd cc
fault_device count (Target NoTile) fails is = absurd fails
fault_device count (Target (Beyond entry got)) fails is = absurd fails
fault_device count (Target (TileTooLarge at len)) fails is = absurd fails
fault_device count (Target (EmptyTile at)) fails is = absurd fails
fault_device count (Target (Full len)) fails is = absurd fails
fault_device count (Target OutOfMemory) fails is = absurd fails
fault_device count (Target Stopped) fails is = absurd fails
fault_device count (KeptTooMuch len) fails is = absurd cc
fault_device count NoRoom fails is = absurd cc

-- the end with the status of a volume is that of such an answer
found_device : (count : ℕ) (answer : Result PackReport PackFault) (end : End) → EndsAs answer end → IfErr answer (λ f. PackFails count f) → end ≡ Err Volume → (fault : PackFault) × ((answer ≡ Err fault) × IsDevice count fault)
found_device count (Ok report) end so fails is = let here : EndsAs (Ok report) (Err Volume) = subst (EndsAs (Ok report)) is so in absurd here
found_device count (Err fault) end so fails is =
    let here : EndsAs (Err fault) (Err Volume) = subst (EndsAs (Err fault)) is so in (fault, (refl, fault_device count fault fails (sym here)))

-- and the other way round
device_ends : (fault : PackFault) (answer : Result PackReport PackFault) (end : End) → stop_of fault ≡ Volume → answer ≡ Err fault → EndsAs answer end → end ≡ Err Volume
device_ends fault answer end stops is so = here end (subst (λ (a : Result PackReport PackFault). EndsAs a end) is so)
  where
    here : (end : End) → EndsAs (Err fault) end → end ≡ Err Volume
    here (Ok u) so = absurd so
    here (Err stop) so = ap Err (so ∙ stops)

-- So a volume's failure is the cause of that status.
pub volume_status : {V : Type 0} (faults : V → ℕ) (answer : Result PackReport PackFault) (end : End) (status : ℕ) (old new : List V) (target : Change ℕ) → status ≡ status_at end → EndsAs answer end
    → IfErr answer (λ f. PackFails (length old) f) → Each (λ i v w. IsCause (DeviceAt answer i) (faults v) (faults w)) old new → IsCause (answer ≡ Err (Target Device)) target.old target.new
    → IsVolumeCause faults (status ≡ 5) old new target
volume_status {V} faults answer end status old new target is so fails sources to = record {
  counts = each_map (λ i v w. IsCause (DeviceAt answer i) (faults v) (faults w)) (λ i v w. faults v ≤ faults w) old new (λ i v w less c. c.counts) sources;
  target_counts = to.counts;
  failed = λ five. let f = found_device (length old) answer end so fails (ends.volume_at refusal_status own end (sym is ∙ five)) in which f.0 f.1.0 f.1.1;
  rose = each_map (λ i v w. IsCause (DeviceAt answer i) (faults v) (faults w)) (λ i v w. faults v < faults w → status ≡ 5) old new
      (λ i v w less c more. is ∙ ap status_at (device_ends (SourceFault i None Device) answer end refl (c.rose more) so)) sources;
  target_rose = λ more. is ∙ ap status_at (device_ends (Target Device) answer end refl (to.rose more) so);
}
  where
    which : (fault : PackFault) → answer ≡ Err fault → IsDevice (length old) fault → SomeFailed faults old new ⊎ FailedBetween target.old target.new
    which fault err (inl (i, (less, at))) =
        let v = get_some old i less in
        let w = get_some new i (omega (arith, sources.many, less)) in
        inl (i, (v.0, (w.0, (v.1, (w.1, (sources.each i v.0 w.0 v.1 w.1).failed (err ∙ ap Err at))))))
    which fault err (inr at) = inr (to.failed (err ∙ ap Err at))

-- ---- the end of an answer

-- where the output does not fail
pub end_is : (answer : Result PackReport PackFault) (end : End) → EndsAs answer end → (status_at end ≡ 4 → ⊥) → end ≡ end_for answer
end_is (Ok report) (Ok u) so not = refl
end_is (Ok report) (Err Output) so not = absurd (not refl)
end_is (Ok report) (Err Usage) so not = absurd so
end_is (Ok report) (Err Source) so not = absurd so
end_is (Ok report) (Err Volume) so not = absurd so
end_is (Ok report) (Err NoMemory) so not = absurd so
end_is (Ok report) (Err (Refused r)) so not = absurd so
end_is (Err fault) (Ok u) so not = absurd so
end_is (Err fault) (Err stop) so not = ap Err so

-- where no volume failed and memory was not refused
pub not_free : (answer : Result PackReport PackFault) (end : End) → EndsAs answer end → (status_at end ≡ 5 → ⊥) → (status_at end ≡ 6 → ⊥) → IsFree answer → ⊥
not_free (Ok report) end so five six free = free
not_free (Err fault) (Ok u) so five six free = so
not_free (Err (SourceFault at None Device)) (Err stop) so five six free = five (ap (λ (s : Stop Refusal). status_at (Err s)) so)
not_free (Err (SourceFault at (Some slot) Device)) (Err stop) so five six free = five (ap (λ (s : Stop Refusal). status_at (Err s)) so)
not_free (Err (Target Device)) (Err stop) so five six free = five (ap (λ (s : Stop Refusal). status_at (Err s)) so)
not_free (Err NoRoom) (Err stop) so five six free = six (ap (λ (s : Stop Refusal). status_at (Err s)) so)
not_free (Err (SourceFault at slot (BadBundle place found))) (Err stop) so five six free = free
not_free (Err (SourceFault at slot (BadJournal place found))) (Err stop) so five six free = free
not_free (Err (SourceFault at slot NoTile)) (Err stop) so five six free = free
not_free (Err (SourceFault at slot (Beyond entry got))) (Err stop) so five six free = free
not_free (Err (SourceFault at slot (TileTooLarge place len))) (Err stop) so five six free = free
not_free (Err (SourceFault at slot (EmptyTile place))) (Err stop) so five six free = free
not_free (Err (SourceFault at slot (Full len))) (Err stop) so five six free = free
not_free (Err (SourceFault at slot (NotEmpty len))) (Err stop) so five six free = free
not_free (Err (SourceFault at slot OutOfMemory)) (Err stop) so five six free = free
not_free (Err (SourceFault at slot Stopped)) (Err stop) so five six free = free
not_free (Err (Target (BadBundle place found))) (Err stop) so five six free = free
not_free (Err (Target (BadJournal place found))) (Err stop) so five six free = free
not_free (Err (Target NoTile)) (Err stop) so five six free = free
not_free (Err (Target (Beyond entry got))) (Err stop) so five six free = free
not_free (Err (Target (TileTooLarge place len))) (Err stop) so five six free = free
not_free (Err (Target (EmptyTile place))) (Err stop) so five six free = free
not_free (Err (Target (Full len))) (Err stop) so five six free = free
not_free (Err (Target (NotEmpty len))) (Err stop) so five six free = free
not_free (Err (Target OutOfMemory)) (Err stop) so five six free = free
not_free (Err (Target Stopped)) (Err stop) so five six free = free
not_free (Err (KeptTooMuch len)) (Err stop) so five six free = free

gained_all : (answer : Result PackReport PackFault) (held : Change (Option (List ℕ))) (bytes : List ℕ) → Gained (end_for answer) held bytes → Holds held.old held.new bytes
gained_all (Ok report) held bytes gained = gained
gained_all (Err fault) held bytes gained = by_stop (stop_of fault) (pack_stops fault) gained
  where
    by_stop : (stop : Stop Refusal) → IsOfPacking stop → Gained {R = Refusal} (Err stop) held bytes → Holds held.old held.new bytes
    by_stop Usage late gained = absurd late
    by_stop Source late gained = absurd late
    by_stop Output late gained = absurd late
    by_stop Volume late gained = gained
    by_stop NoMemory late gained = gained
    by_stop (Refused r) late gained = gained

-- so a run ends as its packing answers
pub ends_with : (answer : Result PackReport PackFault) (end : End) (status : ℕ) (out err : SinkMove) → EndsAs answer end → status ≡ status_at end → OfOutput answer end out → GivesLineOf end err → (status ≡ 4 → ⊥) → EndsWith answer status out err
ends_with answer end status out err so is output line not =
    let same : end ≡ end_for answer = end_is answer end so (λ four. not (is ∙ four)) in record {
      status_is = is ∙ ap status_at same;
      output = gained_all answer out.held (gives answer) (subst (λ (x : End). Gained x out.held (gives answer)) same output.gave);
      line = subst (λ (x : End). GivesLineOf x err) same line;
    }

-- and so it does as each answer that is the same
pub ends_as : (answer other : Result PackReport PackFault) (status : ℕ) (out err : SinkMove) → answer ≡ other → EndsWith answer status out err → EndsWith other status out err
ends_as answer other status out err same ends_so = subst (λ (a : Result PackReport PackFault). EndsWith a status out err) same ends_so
