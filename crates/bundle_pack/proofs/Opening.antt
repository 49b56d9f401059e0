-- One bundle, recovered and opened, and built where it is empty.
use Rattle.std.proofs.Common.{◌≡◌, inl, ℕ, refl, length, List, [], Bool, true, false, Result, Ok, Err, sym, subst, arith}
use Rattle.std.specs.Prelude.{IfErr, IfOk, OnOk}
use Rattle.outside_io.specs.declared.volume.VolFile.TheVariants.{Bundle, Journal}
use Rattle.outside_io.specs.volume.History.{During, History, contents, current}
use Rattle.bundle_store.specs.Build.{EachFits}
use Rattle.bundle_store.specs.Causes.{UnlessDevice}
use Rattle.bundle_store.specs.Recover.{IsRecovered, Leaves}
use Rattle.bundle_store.specs.Session.{BuildFails, KeepsLength, OpenRefuses, Serves, SessionState}
use Rattle.bundle_store.specs.declared.fault.StoreFault.{StoreFault}
use Rattle.bundle_store.specs.declared.fault.StoreFault.TheVariants.{Device, BadBundle, BadJournal, NoTile, Beyond, TileTooLarge, EmptyTile, Full, NotEmpty, OutOfMemory, Stopped}
use Rattle.bundle_store.specs.declared.recovery.Recovery.{Recovery}
use Rattle.bundle_store.specs.declared.tile_rec.TileRec.{TileRec}
use Rattle.bundle_store.proofs.Refusals.{on_unless}
use Rattle.opened_bundle.specs.Files.{Files}
use Rattle.opened_bundle.specs.Left.{IsShut}
use Rattle.opened_bundle.proofs.Resting.{shut_recovered, shut_still}
use Rattle.bundle_pack.specs.Files.{files_in}
use Rattle.bundle_pack.specs.Opening.{OpensAs, StandsLeft}
use Rattle.bundle_pack.specs.inside.Turns.{OpenSays, TargetSays}
use Rattle.bundle_pack.proofs.Recovered.{contents_on, left_on}

-- ---- one that was recovered

opening_says : (f : Files) (found : Recovery) (left : List ℕ) (r : Result SessionState StoreFault) → Leaves f.bundle f.journal found left → IfOk r (λ s. Serves s left) → IfErr r (λ e. OpenRefuses left e) → OpenSays f r left
opening_says f found left (Ok s) leaves serves refused = (record { found = found; leaves = leaves; opens = serves.opens }, serves)
opening_says f found left (Err Device) leaves serves refused = tt
opening_says f found left (Err (BadBundle place number)) leaves serves refused = (left, (found, (leaves, refused)))
opening_says f found left (Err OutOfMemory) leaves serves refused = tt
opening_says f found left (Err (BadJournal place number)) leaves serves refused = absurd refused
opening_says f found left (Err NoTile) leaves serves refused = absurd refused
opening_says f found left (Err (Beyond entry got)) leaves serves refused = absurd refused
opening_says f found left (Err (TileTooLarge at len)) leaves serves refused = absurd refused
opening_says f found left (Err (EmptyTile at)) leaves serves refused = absurd refused
opening_says f found left (Err (Full len)) leaves serves refused = absurd refused
opening_says f found left (Err (NotEmpty len)) leaves serves refused = absurd refused
opening_says f found left (Err Stopped) leaves serves refused = absurd refused

module _ (old mid new : History) (found : Recovery) (leaves : Leaves (contents Bundle old) (contents Journal old) found (contents Bundle mid)) (during : During (λ d. d ≡ current mid) mid new) where
  pub open_says : (r : Result SessionState StoreFault) → IfOk r (λ s. Serves s (contents Bundle mid)) → IfErr r (λ e. OpenRefuses (contents Bundle mid) e) → OpenSays (files_in old) r (contents Bundle new)
  open_says r serves refused = subst (λ (c : List ℕ). OpenSays (files_in old) r c) (sym (contents_on mid new during)) (opening_says (files_in old) found (contents Bundle mid) r leaves serves refused)

  pub open_left : {X : Type 0} (r : Result X StoreFault) → UnlessDevice r (StandsLeft old new)
  open_left r = on_unless r (StandsLeft old new) (left_on old mid new (inl (found, leaves)) during)

  pub open_shut : {X : Type 0} (r : Result X StoreFault) → IsRecovered (contents Bundle old) (contents Journal old) (current mid) → IfOk r (λ x. IsShut (current new))
  open_shut (Ok x) recovered = shut_still mid new during (shut_recovered (contents Bundle old) (contents Journal old) (current mid) recovered)
  open_shut (Err e) recovered = tt

-- ---- a build on one that was opened

pub was_running : (stopped : Bool) → stopped ≡ true → stopped ≡ false → ⊥
was_running stopped one two = absurd cc

pub build_says : (target : Files) (mid : List ℕ) (tiles : List TileRec) (r : Result (Unit {0}) StoreFault) → OpensAs target mid → EachFits tiles → (r ≡ Err Stopped → ⊥) → OnOk r (mid ≡ []) → IfErr r (λ f. BuildFails tiles f)
    → IfErr r (λ f. KeepsLength (length mid) f) → TargetSays target r
build_says target mid tiles (Ok x) opens fits runs empty fails size = subst (OpensAs target) empty opens
build_says target mid tiles (Err Device) opens fits runs empty fails size = tt
build_says target mid tiles (Err (TileTooLarge at len)) opens fits runs empty fails size = absurd (let no : ⊥ = omega (arith, fails.large, fails.len_is, (fits at fails.within).1) in no)
build_says target mid tiles (Err (EmptyTile at)) opens fits runs empty fails size = absurd (let no : ⊥ = omega (arith, fails.empty, (fits at fails.within).0) in no)
build_says target mid tiles (Err (NotEmpty len)) opens fits runs empty fails size = (mid, (opens, (size, fails.1)))
build_says target mid tiles (Err OutOfMemory) opens fits runs empty fails size = tt
build_says target mid tiles (Err Stopped) opens fits runs empty fails size = absurd (runs refl)
build_says target mid tiles (Err (BadBundle place number)) opens fits runs empty fails size = absurd fails
build_says target mid tiles (Err (BadJournal place number)) opens fits runs empty fails size = absurd fails
build_says target mid tiles (Err NoTile) opens fits runs empty fails size = absurd fails
build_says target mid tiles (Err (Beyond entry got)) opens fits runs empty fails size = absurd fails
build_says target mid tiles (Err (Full len)) opens fits runs empty fails size = absurd fails
