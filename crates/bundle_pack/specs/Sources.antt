-- What packing leaves of its sources.
use Rattle.std.specs.Prelude.{◌≡◌, ◌⊎◌, ℕ, ◌<◌, Bool, false, IsTrue, List, length, slice_get, Some, None, Result, Ok, Err}
use Rattle.outside_io.specs.declared.volume.VolFile.TheVariants.{Bundle}
use Rattle.outside_io.specs.streams.Faults.{IsCause}
use Rattle.outside_io.specs.volume.History.{During, History, contents, current}
use Rattle.bundle_store.specs.declared.fault.StoreFault.TheVariants.{Device}
use Rattle.bundle_store.specs.Recover.{EachBundleMidway, EachKeptOrOnTheWay, EachStandsForOneOf}
use Rattle.bundle_store.specs.Session.{Serves, SessionState}
use Rattle.opened_bundle.specs.Left.{IsShut}
use Rattle.bundle_pack.specs.Opening.{StandsLeft}
use Rattle.bundle_pack.specs.Recovering.{ChangesByRecovery}
use Rattle.bundle_pack.specs.declared.fault.PackFault.{PackFault}
use Rattle.bundle_pack.specs.declared.fault.PackFault.TheVariants.{Source, OutOfMemory}

-- each volume of a list, by its number, before and after a call
pub record Each {V : Type 0} (P : ℕ → V → V → Type 0) (old new : List V) : Type 0 where
  pub many : length new ≡ length old
  pub each : (i : ℕ) (v w : V) → slice_get old i ≡ Some v → slice_get new i ≡ Some w → P i v w

-- At each moment each image stands for a map that an image at the start stood for, and has both
-- files of the start, or what a recovery makes of them; and the files change by a recovery alone.
-- All this holds where the volume fails, too.
pub record RecoversAlone {V : Type 0} (told : V → Bool) (history : V → History) (old new : V) :
    Type 0 where
  pub told_same : told new ≡ told old
  pub images : IsTrue (told old) → During (EachStandsForOneOf (current (history old)))
      (history old) (history new)
  pub bytes : IsTrue (told old) → During (EachBundleMidway (current (history old)))
      (history old) (history new)
  pub files : IsTrue (told old) → During (EachKeptOrOnTheWay (current (history old)))
      (history old) (history new)
  pub changes : IsTrue (told old) → ChangesByRecovery (history old) (history new)

-- What is left of one source: its images keep what they stood for; its files change only by a
-- recovery, and unless the source failed its bundle is what that leaves, or as it was; and its
-- failure is the cause of that answer.
pub record SourceMoves {V : Type 0} (told : V → Bool) (history : V → History) (faults : V → ℕ)
    (failed : Type 0) (old new : V) : Type 0 where
  pub kept : RecoversAlone told history old new
  pub bundle : IsTrue (told old) → (failed → ⊥) → StandsLeft (history old) (history new)
      ⊎ (contents Bundle (history new) ≡ contents Bundle (history old))
  pub cause : IsCause failed (faults old) (faults new)

-- source number i failed
abbrev pub DeviceAt : {X : Type 0} → Result X PackFault → ℕ → Type 0
DeviceAt result i = result ≡ Err (Source i None Device)

-- source number i was opened, which the fault says: those before one that was refused were, and all
-- where another fault than want of memory came behind the opening
abbrev pub OpenedBefore : PackFault → ℕ → Type 0
OpenedBefore (Source at None fault) i = i < at
OpenedBefore OutOfMemory i = ⊥
OpenedBefore fault i = Unit {0}

-- the same of any answer
abbrev pub WasOpened : {X : Type 0} → Result X PackFault → ℕ → Type 0
WasOpened (Ok x) i = Unit {0}
WasOpened (Err fault) i = OpenedBefore fault i

-- Of each source that was opened nothing is pending, and its journal is not open.
abbrev pub EachShut : {V X : Type 0} → (V → Bool) → (V → History) → Result X PackFault
    → List V → List V → Type 0
EachShut told history result old new = Each (λ i v w.
    WasOpened result i → IsTrue (told v) → IsShut (current (history w))) old new

-- each session runs and serves the bundle of its volume
pub record IsServing {V : Type 0} (told : V → Bool) (history : V → History)
    (sessions : List SessionState) (vs : List V) : Type 0 where
  pub many : length sessions ≡ length vs
  pub each : (i : ℕ) (s : SessionState) (v : V) → slice_get sessions i ≡ Some s
      → slice_get vs i ≡ Some v
      → (s.stopped ≡ false) × (IsTrue (told v) → Serves s (contents Bundle (history v)))
