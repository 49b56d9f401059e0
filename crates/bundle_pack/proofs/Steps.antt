-- From what one step says and leaves to what the whole does.
use Rattle.std.proofs.Common.{◌≡◌, inr, ℕ, ◌<◌, List, Some, None, Result, Ok, Err, Bool, IsTrue, sym, ap, subst, arith}
use Rattle.std.specs.Prelude.{All, Vec}
use Rattle.std.specs.declared.alloc.Global.{Global}
use Rattle.std.proofs.lemmas.Option.{slice_get_within}
use Rattle.outside_io.specs.streams.Faults.{IsCause}
use Rattle.outside_io.specs.volume.History.{History}
use Rattle.bundle_store.specs.declared.fault.StoreFault.{StoreFault}
use Rattle.bundle_store.specs.declared.fault.StoreFault.TheVariants.{Device, BadBundle, BadJournal, NoTile, Beyond, TileTooLarge, EmptyTile, Full, NotEmpty, OutOfMemory as StoreMemory, Stopped}
use Rattle.bundle_store.specs.declared.tile_rec.TileRec.{TileRec}
use Rattle.bundle_store.specs.Causes.{FaultFrom}
use Rattle.opened_bundle.specs.Files.{Files}
use Rattle.bundle_pack.specs.Packing.{AreTaken}
use Rattle.bundle_pack.specs.Refusals.{OpeningAnswers, PackFails, source_fault_of, target_fault_of}
use Rattle.bundle_pack.specs.Sources.{DeviceAt, Each, SourceMoves}
use Rattle.bundle_pack.specs.declared.fault.PackFault.{PackFault}
use Rattle.bundle_pack.specs.declared.fault.PackFault.TheVariants.{Source, Target, KeptTooMuch, OutOfMemory}
use Rattle.bundle_pack.specs.inside.Collecting.{IsGetFault, IsStill, ReadFails, ReadSays, TilesSay}
use Rattle.bundle_pack.specs.inside.Turns.{OpenAnswers, TargetAnswers}
use Rattle.bundle_pack.proofs.Reading.{moved_still}
use Rattle.bundle_store.proofs.Refusals.{device_cause}
use Rattle.opened_bundle.proofs.BundleOpening.{still}
use Rattle.bundle_pack.proofs.Telling.{by_target, cause_map}
use Rattle.bundle_pack.proofs.Volumes.{all_of, each_join, each_map, get_some, told_at}

-- ---- answers

-- the same fault, of another call
pub err_as : {X Y : Type 0} (f g : PackFault) → ◌≡◌ {A = Result X PackFault} (Err f) (Err g) → ◌≡◌ {A = Result Y PackFault} (Err f) (Err g)
err_as f g e = ap Err (let same : f ≡ g = cc in same)

pub moved_map : {V : Type 0} (told : V → Bool) (history : V → History) (faults : V → ℕ) (P Q : Type 0) (v w : V) → (P → Q) → (Q → P) → SourceMoves told history faults P v w → SourceMoves told history faults Q v w
moved_map told history faults P Q v w to from m = record {
  kept = m.kept;
  bundle = λ tells never. m.bundle tells (λ p. never (to p));
  cause = cause_map P Q (faults v) (faults w) to from m.cause;
}

pub still_map : {V : Type 0} (told : V → Bool) (history : V → History) (faults : V → ℕ) (P Q : Type 0) (v w : V) → (P → Q) → (Q → P) → IsStill told history faults P v w → IsStill told history faults Q v w
still_map told history faults P Q v w to from m = record { told_same = m.told_same; still = m.still; cause = cause_map P Q (faults v) (faults w) to from m.cause }

-- what is left of all sources, by another answer of the same cause
pub all_moved : {V X Y : Type 0} (told : V → Bool) (history : V → History) (faults : V → ℕ) (old new : List V) (r : Result X PackFault) (s : Result Y PackFault)
    → ((i : ℕ) → DeviceAt r i → DeviceAt s i) → ((i : ℕ) → DeviceAt s i → DeviceAt r i)
    → Each (λ i v w. SourceMoves told history faults (DeviceAt r i) v w) old new → Each (λ i v w. SourceMoves told history faults (DeviceAt s i) v w) old new
all_moved told history faults old new r s to from each =
    each_map (λ i v w. SourceMoves told history faults (DeviceAt r i) v w) (λ i v w. SourceMoves told history faults (DeviceAt s i) v w) old new
    (λ i v w less m. moved_map told history faults (DeviceAt r i) (DeviceAt s i) v w (to i) (from i) m) each

pub all_still : {V X Y : Type 0} (told : V → Bool) (history : V → History) (faults : V → ℕ) (old new : List V) (r : Result X PackFault) (s : Result Y PackFault)
    → ((i : ℕ) → DeviceAt r i → DeviceAt s i) → ((i : ℕ) → DeviceAt s i → DeviceAt r i)
    → Each (λ i v w. IsStill told history faults (DeviceAt r i) v w) old new → Each (λ i v w. IsStill told history faults (DeviceAt s i) v w) old new
all_still told history faults old new r s to from each =
    each_map (λ i v w. IsStill told history faults (DeviceAt r i) v w) (λ i v w. IsStill told history faults (DeviceAt s i) v w) old new
    (λ i v w less m. still_map told history faults (DeviceAt r i) (DeviceAt s i) v w (to i) (from i) m) each

-- all opened, then read from
pub opened_still : {V X Y : Type 0} (told : V → Bool) (history : V → History) (faults : V → ℕ) (old mid new : List V) (r : Result X PackFault) (s : Result Y PackFault)
    → ((i : ℕ) → DeviceAt r i → ⊥) → Each (λ i v w. SourceMoves told history faults (DeviceAt r i) v w) old mid → Each (λ i v w. IsStill told history faults (DeviceAt s i) v w) mid new
    → Each (λ i v w. SourceMoves told history faults (DeviceAt s i) v w) old new
opened_still told history faults old mid new r s never first second =
    each_join (λ i v w. SourceMoves told history faults (DeviceAt r i) v w) (λ i v w. IsStill told history faults (DeviceAt s i) v w) (λ i v w. SourceMoves told history faults (DeviceAt s i) v w) old mid new
    (λ i v m w one two. moved_still told history faults (DeviceAt r i) (DeviceAt s i) v m w (never i) one two) first second

-- ---- the numbers that are kept

pub opening_answers : (at count : ℕ) (fault : StoreFault) → at < count → OpenAnswers fault → OpeningAnswers count (source_fault_of at fault)
opening_answers at count Device less fails = (less, fails)
opening_answers at count (BadBundle place found) less fails = (less, fails)
opening_answers at count (BadJournal place found) less fails = (less, fails)
opening_answers at count NoTile less fails = absurd fails
opening_answers at count (Beyond entry got) less fails = absurd fails
opening_answers at count (TileTooLarge place len) less fails = absurd fails
opening_answers at count (EmptyTile place) less fails = absurd fails
opening_answers at count (Full len) less fails = absurd fails
opening_answers at count (NotEmpty len) less fails = absurd fails
opening_answers at count StoreMemory less fails = tt
opening_answers at count Stopped less fails = absurd fails

pub opening_fails : (count : ℕ) (fault : PackFault) → OpeningAnswers count fault → ReadFails count fault
opening_fails count (Source at None fault) fails = fails
opening_fails count (Source at (Some slot) fault) fails = absurd fails
opening_fails count (Target fault) fails = absurd fails
opening_fails count (KeptTooMuch len) fails = absurd fails
opening_fails count OutOfMemory fails = tt

pub get_fails : (at slot count : ℕ) (fault : PackFault) → at < count → slot < 16384 → IsGetFault at slot fault → ReadFails count fault
get_fails at slot count (Source number None Device) less below is = (omega (arith, less, is), tt)
get_fails at slot count (Source number None (BadBundle place found)) less below is = absurd is
get_fails at slot count (Source number None (BadJournal place found)) less below is = absurd is
get_fails at slot count (Source number None NoTile) less below is = absurd is
get_fails at slot count (Source number None (Beyond entry got)) less below is = absurd is
get_fails at slot count (Source number None (TileTooLarge place len)) less below is = absurd is
get_fails at slot count (Source number None (EmptyTile place)) less below is = absurd is
get_fails at slot count (Source number None (Full len)) less below is = absurd is
get_fails at slot count (Source number None (NotEmpty len)) less below is = absurd is
get_fails at slot count (Source number None StoreMemory) less below is = absurd is
get_fails at slot count (Source number None Stopped) less below is = absurd is
get_fails at slot count (Source number (Some s) (Beyond entry got)) less below (is, (there, more)) = (omega (arith, less, is), (omega (arith, below, there), more))
get_fails at slot count (Source number (Some s) Device) less below is = absurd is
get_fails at slot count (Source number (Some s) (BadBundle place found)) less below is = absurd is
get_fails at slot count (Source number (Some s) (BadJournal place found)) less below is = absurd is
get_fails at slot count (Source number (Some s) NoTile) less below is = absurd is
get_fails at slot count (Source number (Some s) (TileTooLarge place len)) less below is = absurd is
get_fails at slot count (Source number (Some s) (EmptyTile place)) less below is = absurd is
get_fails at slot count (Source number (Some s) (Full len)) less below is = absurd is
get_fails at slot count (Source number (Some s) (NotEmpty len)) less below is = absurd is
get_fails at slot count (Source number (Some s) StoreMemory) less below is = absurd is
get_fails at slot count (Source number (Some s) Stopped) less below is = absurd is
get_fails at slot count (Target fault) less below is = absurd is
get_fails at slot count (KeptTooMuch len) less below is = absurd is
get_fails at slot count OutOfMemory less below is = tt

pub read_fails : (count : ℕ) (fault : PackFault) → ReadFails count fault → PackFails count fault
read_fails count (Source at slot fault) fails = fails
read_fails count (Target fault) fails = absurd fails
read_fails count (KeptTooMuch len) fails = fails
read_fails count OutOfMemory fails = tt

-- it is none of the target
pub not_target : (X : Type 0) (count : ℕ) (fault : PackFault) (of : StoreFault) → ReadFails count fault → ◌≡◌ {A = Result X PackFault} (Err fault) (Err (Target of)) → ⊥
not_target X count fault of fails e = let same : fault ≡ Target of = cc in subst (ReadFails count) same fails

pub target_fails : (count : ℕ) (fault : StoreFault) → TargetAnswers fault → PackFails count (target_fault_of fault)
target_fails count (NotEmpty len) fails = fails
target_fails count Device fails = fails
target_fails count (BadBundle place found) fails = fails
target_fails count (BadJournal place found) fails = fails
target_fails count NoTile fails = absurd fails
target_fails count (Beyond entry got) fails = absurd fails
target_fails count (TileTooLarge place len) fails = absurd fails
target_fails count (EmptyTile place) fails = absurd fails
target_fails count (Full len) fails = absurd fails
target_fails count StoreMemory fails = tt
target_fails count Stopped fails = absurd fails

-- a fault of the target is none of a source
pub not_source : (i : ℕ) (fault : StoreFault) → target_fault_of fault ≡ Source i None Device → ⊥
not_source i fault = by_target (λ f told. told ≡ Source i None Device → ⊥) (λ is. absurd cc) (λ f is. absurd cc) fault

-- the count of the target
pub target_cause : (fault : StoreFault) (old new : ℕ) → FaultFrom fault old new → IsCause (target_fault_of fault ≡ Target Device) old new
target_cause fault old new =
    by_target (λ f told. FaultFrom f old new → IsCause (told ≡ Target Device) old new) (λ same. still _ old new same (λ is. absurd cc))
    (λ f from. cause_map (f ≡ Device) (Target f ≡ Target Device) old new (ap Target) (λ is. let same : f ≡ Device = cc in same) (device_cause f old new from)) fault

-- ---- what is said

pub read_tiles : (sources : List Files) (bundles : List (List ℕ)) (r : Result (Vec TileRec Global) PackFault) → AreTaken sources bundles → TilesSay bundles r → ReadSays sources r
read_tiles sources bundles (Ok tiles) taken (whole, is) = (bundles, (record { taken = taken; whole = whole }, is))
read_tiles sources bundles (Err (Source at None Device)) taken says = inr (bundles, (taken, says))
read_tiles sources bundles (Err (Source at None (BadBundle place found))) taken says = absurd says
read_tiles sources bundles (Err (Source at None (BadJournal place found))) taken says = absurd says
read_tiles sources bundles (Err (Source at None NoTile)) taken says = absurd says
read_tiles sources bundles (Err (Source at None (Beyond entry got))) taken says = absurd says
read_tiles sources bundles (Err (Source at None (TileTooLarge place len))) taken says = absurd says
read_tiles sources bundles (Err (Source at None (EmptyTile place))) taken says = absurd says
read_tiles sources bundles (Err (Source at None (Full len))) taken says = absurd says
read_tiles sources bundles (Err (Source at None (NotEmpty len))) taken says = absurd says
read_tiles sources bundles (Err (Source at None StoreMemory)) taken says = absurd says
read_tiles sources bundles (Err (Source at None Stopped)) taken says = absurd says
read_tiles sources bundles (Err (Source at (Some slot) (Beyond entry got))) taken says = (bundles, (taken, says))
read_tiles sources bundles (Err (Source at (Some slot) Device)) taken says = absurd says
read_tiles sources bundles (Err (Source at (Some slot) (BadBundle place found))) taken says = absurd says
read_tiles sources bundles (Err (Source at (Some slot) (BadJournal place found))) taken says = absurd says
read_tiles sources bundles (Err (Source at (Some slot) NoTile)) taken says = absurd says
read_tiles sources bundles (Err (Source at (Some slot) (TileTooLarge place len))) taken says = absurd says
read_tiles sources bundles (Err (Source at (Some slot) (EmptyTile place))) taken says = absurd says
read_tiles sources bundles (Err (Source at (Some slot) (Full len))) taken says = absurd says
read_tiles sources bundles (Err (Source at (Some slot) (NotEmpty len))) taken says = absurd says
read_tiles sources bundles (Err (Source at (Some slot) StoreMemory)) taken says = absurd says
read_tiles sources bundles (Err (Source at (Some slot) Stopped)) taken says = absurd says
read_tiles sources bundles (Err (Target fault)) taken says = absurd says
read_tiles sources bundles (Err (KeptTooMuch len)) taken says = absurd says
read_tiles sources bundles (Err OutOfMemory) taken says = tt

-- what is told of all stays told
pub moved_told : {V : Type 0} (told : V → Bool) (history : V → History) (faults : V → ℕ) (failed : ℕ → Type 0) (old new : List V)
    → Each (λ i v w. SourceMoves told history faults (failed i) v w) old new → All (λ v. IsTrue (told v)) old → All (λ v. IsTrue (told v)) new
moved_told told history faults failed old new so all = all_of (λ v. IsTrue (told v)) new (λ i w then.
    let v = get_some old i (omega (arith, so.many, slice_get_within new i w then)) in
    subst (λ b. IsTrue b) (sym (so.each i v.0 w v.1 then).kept.told_same) (told_at told old i v.0 all v.1))
