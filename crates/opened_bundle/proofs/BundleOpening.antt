-- What recovering and opening the bundle answer, and what they leave of the volume.
use Rattle.std.proofs.Common.{◌≡◌, ℕ, ◌≤◌, ◌⊎◌, inl, inr, List, Bool, true, false, Option, Some, None, Ok, Err, refl, sym, ap, subst, ◌∙◌, rules, arith}
use Rattle.std.specs.Prelude.{IsTrue}
use Rattle.std.proofs.lemmas.Bool.{cases_lt}
use Rattle.outside_io.specs.declared.volume.VolFile.TheVariants.{Bundle, Journal}
use Rattle.outside_io.specs.streams.Faults.{FailedBetween, IsCause}
use Rattle.outside_io.specs.volume.Disk.{Disk}
use Rattle.outside_io.specs.volume.History.{During, History, contents, current}
use Rattle.outside_io.proofs.VolumeLemmas.Moments.{during_end, during_join, during_map}
use Rattle.bundle_index.specs.Entry.{entry_at}
use Rattle.bundle_store.specs.declared.fault.StoreFault.{StoreFault}
use Rattle.bundle_store.specs.declared.fault.StoreFault.TheVariants.{Device, BadBundle, BadJournal, NoTile, Beyond, TileTooLarge, EmptyTile, Full, NotEmpty, OutOfMemory, Stopped}
use Rattle.bundle_store.specs.declared.recovery.Recovery.{Recovery}
use Rattle.bundle_store.specs.Causes.{FaultFrom}
use Rattle.bundle_store.specs.Recover.{EachKeptOrOnTheWay, EachStandsForOneOf, Leaves, OnBadJournal, RecoverFails, RecoverySays, synced_disk}
use Rattle.bundle_store.specs.Session.{GetFails, GetRefuses, IsBeyond, OpenFails, OpenRefuses, SessionState}
use Rattle.bundle_store.specs.Starts.{EachIsSound, KeepsStart}
use Rattle.bundle_store.proofs.Refusals.{by_opening, by_recovery}
use Rattle.bundle_store.proofs.Starting.{keeps_sound}
use Rattle.program_ends.specs.Moves.{VolumeMove, volume_move}
use Rattle.program_ends.specs.declared.stop.Stop.{Stop}
use Rattle.program_ends.specs.declared.stop.Stop.TheVariants.{Usage, Refused, Source, Output, Volume, OutOfMemory as NoMemory}
use Rattle.opened_bundle.specs.declared.refusal.StoreRefusal.{StoreRefusal}
use Rattle.opened_bundle.specs.declared.refusal.StoreRefusal.TheVariants.{NoTile as MissingTile, Beyond as MissingBytes, BadBundle as NoBundle, BadJournal as NoJournal, NotEmpty as SomeBytes, Full as FullBundle}
use Rattle.opened_bundle.specs.Files.{Files, OfBundle, files_of}
use Rattle.opened_bundle.specs.Left.{IsLeft, OfReading}
use Rattle.opened_bundle.specs.Opening.{IsOpened, OpeningStops, ReadsTile, Recovers}
use Rattle.opened_bundle.specs.Refusals.{stop_of, tile_stop_of}

-- ---- causes

pub still : (P : Type 0) (old new : ℕ) → new ≡ old → (P → ⊥) → IsCause P old new
still P old new same never = record { counts = omega (arith, same); failed = λ is. absurd (never is); rose = λ rose. absurd (omega (arith, same, rose)) }

-- a fault of recovery or of opening
abbrev Fails : StoreFault → Type 0
Fails fault = RecoverFails fault ⊎ OpenFails fault

volume_cause : (old new : ℕ) → FaultFrom Device old new → IsCause (stop_of Device ≡ Volume) old new
volume_cause old new from = record { counts = from.0; failed = λ _. from.1; rose = λ _. refl }

pub opening_cause : (fault : StoreFault) (old new : ℕ) → Fails fault → FaultFrom fault old new → IsCause (stop_of fault ≡ Volume) old new
opening_cause fault old new (inl fails) from =
    by_recovery (λ f. FaultFrom f old new → IsCause (stop_of f ≡ Volume) old new) (volume_cause old new) (λ place found fails same. still (Refused (NoJournal place found) ≡ Volume) old new same (λ is. cc)) fault fails from
opening_cause fault old new (inr fails) from =
    by_opening (λ f. FaultFrom f old new → IsCause (stop_of f ≡ Volume) old new) (volume_cause old new) (λ place found fails same. still (Refused (NoBundle place found) ≡ Volume) old new same (λ is. cc))
    (λ same. still (NoMemory ≡ Volume) old new same (λ is. cc)) fault fails from

pub tile_cause : (slot : ℕ) (fault : StoreFault) (old new : ℕ) → GetFails fault → (fault ≡ Stopped → ⊥) → FaultFrom fault old new → IsCause (tile_stop_of slot fault ≡ Volume) old new
tile_cause slot Device old new fails running from = record { counts = from.0; failed = λ _. from.1; rose = λ _. refl }
tile_cause slot (BadBundle place found) old new fails running same = absurd fails
tile_cause slot (BadJournal place found) old new fails running same = absurd fails
tile_cause slot NoTile old new fails running same = still (tile_stop_of slot NoTile ≡ Volume) old new same (λ is. cc)
tile_cause slot (Beyond entry got) old new fails running same = still (tile_stop_of slot (Beyond entry got) ≡ Volume) old new same (λ is. cc)
tile_cause slot (TileTooLarge at len) old new fails running same = absurd fails
tile_cause slot (EmptyTile at) old new fails running same = absurd fails
tile_cause slot (Full len) old new fails running same = absurd fails
tile_cause slot (NotEmpty len) old new fails running same = absurd fails
tile_cause slot OutOfMemory old new fails running same = still (NoMemory ≡ Volume) old new same (λ is. cc)
tile_cause slot Stopped old new fails running same = absurd (running refl)

-- ---- what is told of the files

pub recovers : (told : Bool) (h : History) (done : Recovery) (left : List ℕ) → (IsTrue told → Leaves (contents Bundle h) (contents Journal h) done left) → Recovers (files_of told h) (Ok done)
recovers true h done left leaves = (left, leaves (search rules))
recovers false h done left leaves = tt

pub unrecovered : (told : Bool) (h : History) (fault : StoreFault) → RecoverFails fault → (IsTrue told → RecoverySays (contents Bundle h) (contents Journal h) (Err fault)) → Recovers (files_of told h) (Err (stop_of fault))
unrecovered told h fault fails = by_recovery (λ f. (IsTrue told → RecoverySays (contents Bundle h) (contents Journal h) (Err f)) → Recovers (files_of told h) (Err (stop_of f))) (λ says. tt) (journal told) fault fails
  where
    journal : (told : Bool) (place found : ℕ) → RecoverFails (BadJournal place found) → (IsTrue told → RecoverySays (contents Bundle h) (contents Journal h) (Err (BadJournal place found))) → Recovers (files_of told h) (Err (stop_of (BadJournal place found)))
    journal true place found fails says = (fails, says (search rules))
    journal false place found fails says = (fails, tt)

-- the refusal of a recovery is one of opening
pub stops_opening : (files : Option Files) (stop : Stop StoreRefusal) → Recovers files (Err stop) → OpeningStops files stop
stops_opening files Usage is = absurd is
stops_opening files Source is = absurd is
stops_opening files Output is = absurd is
stops_opening files Volume is = tt
stops_opening files NoMemory is = absurd is
stops_opening files (Refused (MissingTile row col)) is = absurd is
stops_opening files (Refused (MissingBytes row col entry got)) is = absurd is
stops_opening files (Refused (NoBundle place found)) is = absurd is
stops_opening files (Refused (NoJournal place found)) is = is
stops_opening files (Refused (FullBundle len)) is = absurd is
stops_opening files (Refused (SomeBytes len)) is = absurd is

pub open_stops : (told : Bool) (h : History) (done : Recovery) (bundle : List ℕ) (fault : StoreFault) → OpenFails fault
    → (IsTrue told → Leaves (contents Bundle h) (contents Journal h) done bundle) → (IsTrue told → OpenRefuses bundle fault) → OpeningStops (files_of told h) (stop_of fault)
open_stops told h done bundle fault fails leaves = by_opening (λ f. (IsTrue told → OpenRefuses bundle f) → OpeningStops (files_of told h) (stop_of f)) (λ refuses. tt) (refused told leaves) (memory told leaves) fault fails
  where
    refused : (told : Bool) → (IsTrue told → Leaves (contents Bundle h) (contents Journal h) done bundle) → (place found : ℕ) → OpenFails (BadBundle place found) → (IsTrue told → OpenRefuses bundle (BadBundle place found)) → OpeningStops (files_of told h) (stop_of (BadBundle place found))
    refused true leaves place found fails refuses = (fails, (done, (bundle, (leaves (search rules), refuses (search rules)))))
    refused false leaves place found fails refuses = (fails, tt)

    memory : (told : Bool) → (IsTrue told → Leaves (contents Bundle h) (contents Journal h) done bundle) → (IsTrue told → OpenRefuses bundle OutOfMemory) → OpeningStops (files_of told h) (stop_of OutOfMemory)
    memory true leaves refuses = (done, (bundle, (leaves (search rules), (refuses (search rules), tt))))
    memory false leaves refuses = tt

-- the bundle that was opened is such
pub of_bundle : (told : Bool) (h : History) (P : List ℕ → Type 0) (s : SessionState) (d : Disk)
    → (IsTrue told → IsOpened s (contents Bundle h) (contents Journal h) d) → (IsTrue told → P d.bundle.now) → OfBundle (files_of told h) P
of_bundle true h P s d opened is =
    let o = opened (search rules) in (o.done, (d.bundle.now, (o.leaves, (o.serves.opens, is (search rules)))))
of_bundle false h P s d opened is = tt

pub bundle_map : (files : Option Files) (P Q : List ℕ → Type 0) → ((b : List ℕ) → P b → Q b) → OfBundle files P → OfBundle files Q
bundle_map None P Q so of = tt
bundle_map (Some f) P Q so (done, (bundle, (leaves, (opens, is)))) = (done, (bundle, (leaves, (opens, so bundle is))))

-- ---- one tile

pub tile_not_opened : (files : Option Files) (slot : ℕ) (stop : Stop StoreRefusal) → OpeningStops files stop → ReadsTile files slot (Err stop)
tile_not_opened files slot Usage stops = absurd stops
tile_not_opened files slot Source stops = absurd stops
tile_not_opened files slot Output stops = absurd stops
tile_not_opened files slot Volume stops = tt
tile_not_opened files slot NoMemory stops = stops
tile_not_opened files slot (Refused (MissingTile row col)) stops = absurd stops
tile_not_opened files slot (Refused (MissingBytes row col entry got)) stops = absurd stops
tile_not_opened files slot (Refused (NoBundle place found)) stops = stops
tile_not_opened files slot (Refused (NoJournal place found)) stops = stops
tile_not_opened files slot (Refused (FullBundle len)) stops = absurd stops
tile_not_opened files slot (Refused (SomeBytes len)) stops = absurd stops

pub tile_refused : (told : Bool) (h : History) (s : SessionState) (d : Disk) (slot : ℕ) (fault : StoreFault) → (IsTrue told → IsOpened s (contents Bundle h) (contents Journal h) d)
    → GetFails fault → (fault ≡ Stopped → ⊥) → (IsTrue told → GetRefuses d.bundle.now slot fault) → ReadsTile (files_of told h) slot (Err (tile_stop_of slot fault))
tile_refused told h s d slot Device opened fails running refuses = tt
tile_refused told h s d slot NoTile opened fails running refuses = (refl, refl, of_bundle told h (λ b. (entry_at b slot).size ≡ 0) s d opened refuses)
tile_refused told h s d slot (Beyond entry got) opened fails running refuses = (refl, refl, fails, of_bundle told h (λ b. IsBeyond b slot entry got) s d opened refuses)
tile_refused told h s d slot OutOfMemory opened fails running refuses = of_bundle told h (λ b. Unit {0}) s d opened (λ _. tt)
tile_refused told h s d slot Stopped opened fails running refuses = absurd (running refl)
tile_refused told h s d slot (BadBundle place found) opened fails running refuses = absurd fails
tile_refused told h s d slot (BadJournal place found) opened fails running refuses = absurd fails
tile_refused told h s d slot (TileTooLarge at len) opened fails running refuses = absurd fails
tile_refused told h s d slot (EmptyTile at) opened fails running refuses = absurd fails
tile_refused told h s d slot (Full len) opened fails running refuses = absurd fails
tile_refused told h s d slot (NotEmpty len) opened fails running refuses = absurd fails

-- ---- the volume

-- each image of a start that is sound stands for a map that one stood for
pub keeps_start : (P : Type 0) (vol : VolumeMove) → OfReading P vol → IsTrue vol.told.old → EachIsSound (current vol.history.old) → KeepsStart vol.history.old vol.history.new
keeps_start P vol so tells sound = keeps_sound vol.history.old vol.history.new sound (so.images tells)

pub recovering : (P : Type 0) (vol : VolumeMove) → IsCause P vol.faults.old vol.faults.new → vol.told.new ≡ vol.told.old
    → (IsTrue vol.told.old → During (EachStandsForOneOf (current vol.history.old)) vol.history.old vol.history.new)
    → (IsTrue vol.told.old → During (EachKeptOrOnTheWay (current vol.history.old)) vol.history.old vol.history.new)
    → (IsTrue vol.told.old → (P → ⊥) → IsLeft (contents Bundle vol.history.old) (contents Journal vol.history.old) (contents Bundle vol.history.new)) → OfReading P vol
recovering P vol cause same images files left = record {
  cause = cause;
  told = same;
  later = λ tells. (images tells).later;
  reads = left;
  images = images;
  files = files;
}

-- a recovery that was refused leaves the bundle as it was
pub left_alone : (fault : StoreFault) (old new : History) → RecoverFails fault → (stop_of fault ≡ Volume → ⊥) → RecoverySays (contents Bundle old) (contents Journal old) (Err fault)
    → OnBadJournal {X = Recovery} (Err fault) (current new ≡ synced_disk (current old)) → IsLeft (contents Bundle old) (contents Journal old) (contents Bundle new)
left_alone fault old new fails =
    by_recovery (λ f. (stop_of f ≡ Volume → ⊥) → RecoverySays (contents Bundle old) (contents Journal old) (Err f) → OnBadJournal {X = Recovery} (Err f) (current new ≡ synced_disk (current old)) → IsLeft (contents Bundle old) (contents Journal old) (contents Bundle new))
    (λ other. absurd (other refl)) (λ place found fails other says kept. inr (place, found, (says, ap (λ (d : Disk). d.bundle.now) kept))) fault fails

pub failed_later : (f m n : ℕ) → f ≤ m → FailedBetween m n → FailedBetween f n
failed_later f m n first (inl rose) = inl (omega (arith, first, rose))
failed_later f m n first (inr full) = inr full

-- what holds at each moment of a call holds on while the disk is as it was at its end
stays_so : (Pass : Disk → Type 0) (old mid new : History) → During Pass old mid → During (λ d. d ≡ current mid) mid new → During Pass old new
stays_so Pass old mid new first during =
    let here = during_end Pass old mid first in
    during_join Pass old mid new first (during_map _ Pass mid new (λ d is. subst Pass (sym is) here) during)

-- a call more, which changes nothing
pub reads_on : (P Q V : Type 0) (told : V → Bool) (history : V → History) (faults : V → ℕ) (old mid new : V) → (P → ⊥) → OfReading P (volume_move told history faults old mid)
    → IsCause Q (faults mid) (faults new) → told new ≡ told mid → (IsTrue (told mid) → During (λ d. d ≡ current (history mid)) (history mid) (history new))
    → OfReading Q (volume_move told history faults old new)
reads_on P Q V told history faults old mid new well so cause same during = record {
  cause = record {
    counts = omega (arith, so.cause.counts, cause.counts);
    failed = λ q. failed_later (faults old) (faults mid) (faults new) so.cause.counts (cause.failed q);
    rose = λ rose. elim (cases_lt (faults old) (faults mid)) [ inl before ↦ absurd (well (so.cause.rose before)) | inr after ↦ cause.rose (omega (arith, after, rose)) ];
  };
  told = same ∙ so.told;
  later = λ tells. (let now = during (so.told ∙ tells) in omega (arith, so.later tells, now.later));
  reads = λ tells _.
      let end : current (history new) ≡ current (history mid) = during_end (λ d. d ≡ current (history mid)) (history mid) (history new) (during (so.told ∙ tells)) in
      subst (λ (d : Disk). IsLeft (contents Bundle (history old)) (contents Journal (history old)) d.bundle.now) (sym end) (so.reads tells well);
  images = λ tells. stays_so (EachStandsForOneOf (current (history old))) (history old) (history mid) (history new) (so.images tells) (during (so.told ∙ tells));
  files = λ tells. stays_so (EachKeptOrOnTheWay (current (history old))) (history old) (history mid) (history new) (so.files tells) (during (so.told ∙ tells));
}

-- the same under another name of the failure
pub reads_as : (P Q : Type 0) (vol : VolumeMove) → (P → Q) → (Q → P) → OfReading P vol → OfReading Q vol
reads_as P Q vol to from so = record {
  cause = record { counts = so.cause.counts; failed = λ q. so.cause.failed (from q); rose = λ rose. to (so.cause.rose rose) };
  told = so.told;
  later = so.later;
  reads = λ tells other. so.reads tells (λ p. other (to p));
  images = so.images;
  files = so.files;
}
