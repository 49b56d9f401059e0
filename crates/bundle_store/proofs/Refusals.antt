-- What follows from an answer, by its cause.
use Rattle.std.proofs.Common.{◌≡◌, refl, ℕ, Result, Ok, Err, List, arith}
use Rattle.outside_io.specs.streams.Faults.{IsCause}
use Rattle.bundle_store.specs.declared.fault.StoreFault.{StoreFault}
use Rattle.bundle_store.specs.declared.fault.StoreFault.TheVariants.{Device, BadBundle, BadJournal, NoTile, Beyond, TileTooLarge, EmptyTile, Full, NotEmpty, OutOfMemory, Stopped}
use Rattle.bundle_store.specs.declared.tile_rec.TileRec.{TileRec}
use Rattle.bundle_store.specs.Causes.{FaultFrom, OnCause, OnRefusal, UnlessDevice}
use Rattle.bundle_store.specs.Recover.{RecoverFails}
use Rattle.bundle_store.specs.Session.{BuildFails, OpenFails}
use Rattle.bundle_store.specs.inside.Table.{TilesFail}

pub on_cause : (f : StoreFault) (P : Type 0) → P → OnCause f P
on_cause Device P p = tt
on_cause (BadBundle place found) P p = p
on_cause (BadJournal place found) P p = p
on_cause NoTile P p = p
on_cause (Beyond entry got) P p = p
on_cause (TileTooLarge at len) P p = p
on_cause (EmptyTile at) P p = p
on_cause (Full len) P p = p
on_cause (NotEmpty len) P p = p
on_cause OutOfMemory P p = p
on_cause Stopped P p = p

pub cause_weaker : (f : StoreFault) (P Q : Type 0) → (P → Q) → OnCause f P → OnCause f Q
cause_weaker Device P Q so p = tt
cause_weaker (BadBundle place found) P Q so p = so p
cause_weaker (BadJournal place found) P Q so p = so p
cause_weaker NoTile P Q so p = so p
cause_weaker (Beyond entry got) P Q so p = so p
cause_weaker (TileTooLarge at len) P Q so p = so p
cause_weaker (EmptyTile at) P Q so p = so p
cause_weaker (Full len) P Q so p = so p
cause_weaker (NotEmpty len) P Q so p = so p
cause_weaker OutOfMemory P Q so p = so p
cause_weaker Stopped P Q so p = so p

pub unless_weaker : {X : Type 0} (r : Result X StoreFault) (P Q : Type 0) → (P → Q) → UnlessDevice r P → UnlessDevice r Q
unless_weaker (Ok x) P Q so p = so p
unless_weaker (Err f) P Q so p = cause_weaker f P Q so p

pub refusal_weaker : {X : Type 0} (r : Result X StoreFault) (P Q : Type 0) → (P → Q) → OnRefusal r P → OnRefusal r Q
refusal_weaker (Ok x) P Q so p = tt
refusal_weaker (Err f) P Q so p = cause_weaker f P Q so p

pub on_unless : {X : Type 0} (r : Result X StoreFault) (P : Type 0) → P → UnlessDevice r P
on_unless (Ok x) P p = p
on_unless (Err f) P p = on_cause f P p

uncaused : {P : Type 0} (old new : ℕ) → new ≡ old → (P → ⊥) → IsCause P old new
uncaused old new same never = record { counts = omega (arith, same); failed = λ is. absurd (never is); rose = λ rose. absurd (omega (arith, same, rose)) }

-- A cause is Device, or any other.
pub unless_device : (f : StoreFault) (P : Type 0) → OnCause f P → (f ≡ Device → ⊥) → P
unless_device Device P on never = absurd (never refl)
unless_device (BadBundle place found) P on never = on
unless_device (BadJournal place found) P on never = on
unless_device NoTile P on never = on
unless_device (Beyond entry got) P on never = on
unless_device (TileTooLarge at len) P on never = on
unless_device (EmptyTile at) P on never = on
unless_device (Full len) P on never = on
unless_device (NotEmpty len) P on never = on
unless_device OutOfMemory P on never = on
unless_device Stopped P on never = on

pub device_cause : (f : StoreFault) (old new : ℕ) → FaultFrom f old new → IsCause (f ≡ Device) old new
device_cause Device old new from = record { counts = from.0; failed = λ _. from.1; rose = λ _. refl }
device_cause (BadBundle place found) old new same = uncaused old new same (λ is. absurd cc)
device_cause (BadJournal place found) old new same = uncaused old new same (λ is. absurd cc)
device_cause NoTile old new same = uncaused old new same (λ is. absurd cc)
device_cause (Beyond entry got) old new same = uncaused old new same (λ is. absurd cc)
device_cause (TileTooLarge at len) old new same = uncaused old new same (λ is. absurd cc)
device_cause (EmptyTile at) old new same = uncaused old new same (λ is. absurd cc)
device_cause (Full len) old new same = uncaused old new same (λ is. absurd cc)
device_cause (NotEmpty len) old new same = uncaused old new same (λ is. absurd cc)
device_cause OutOfMemory old new same = uncaused old new same (λ is. absurd cc)
device_cause Stopped old new same = uncaused old new same (λ is. absurd cc)

-- What holds of a failure of the volume and of each refused journal holds of each fault of a recovery.
pub by_recovery : (P : StoreFault → Type 0) → P Device → ((place found : ℕ) → RecoverFails (BadJournal place found) → P (BadJournal place found)) → (f : StoreFault) → RecoverFails f → P f
by_recovery P device journal Device fails = device
by_recovery P device journal (BadJournal place found) fails = journal place found fails
by_recovery P device journal (BadBundle place found) fails = absurd fails
by_recovery P device journal NoTile fails = absurd fails
by_recovery P device journal (Beyond entry got) fails = absurd fails
by_recovery P device journal (TileTooLarge at len) fails = absurd fails
by_recovery P device journal (EmptyTile at) fails = absurd fails
by_recovery P device journal (Full len) fails = absurd fails
by_recovery P device journal (NotEmpty len) fails = absurd fails
by_recovery P device journal OutOfMemory fails = absurd fails
by_recovery P device journal Stopped fails = absurd fails

-- And what holds of a failure of the volume, of each refused bundle and of want of memory holds of
-- each fault of opening.
pub by_opening : (P : StoreFault → Type 0) → P Device → ((place found : ℕ) → OpenFails (BadBundle place found) → P (BadBundle place found)) → P OutOfMemory → (f : StoreFault) → OpenFails f → P f
by_opening P device bundle memory Device fails = device
by_opening P device bundle memory (BadBundle place found) fails = bundle place found fails
by_opening P device bundle memory OutOfMemory fails = memory
by_opening P device bundle memory (BadJournal place found) fails = absurd fails
by_opening P device bundle memory NoTile fails = absurd fails
by_opening P device bundle memory (Beyond entry got) fails = absurd fails
by_opening P device bundle memory (TileTooLarge at len) fails = absurd fails
by_opening P device bundle memory (EmptyTile at) fails = absurd fails
by_opening P device bundle memory (Full len) fails = absurd fails
by_opening P device bundle memory (NotEmpty len) fails = absurd fails
by_opening P device bundle memory Stopped fails = absurd fails

-- a build that refuses a tile
pub fails_build : (tiles : List TileRec) (f : StoreFault) → TilesFail tiles f → BuildFails tiles f
fails_build tiles Device is = absurd is
fails_build tiles (BadBundle place found) is = is
fails_build tiles (BadJournal place found) is = is
fails_build tiles NoTile is = is
fails_build tiles (Beyond entry got) is = is
fails_build tiles (TileTooLarge at len) is = is
fails_build tiles (EmptyTile at) is = is
fails_build tiles (Full len) is = is
fails_build tiles (NotEmpty len) is = absurd is
fails_build tiles OutOfMemory is = absurd is
fails_build tiles Stopped is = absurd is
