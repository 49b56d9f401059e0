-- A volume on which nothing is done but a recovery, if that.
use Rattle.std.specs.Prelude.{◌≡◌, ◌⊎◌, Result, IfOk, OnOk}
use Rattle.outside_io.specs.declared.volume.VolFile.TheVariants.{Bundle, Journal}
use Rattle.outside_io.specs.volume.History.{During, History, contents, current}
use Rattle.bundle_store.specs.declared.fault.StoreFault.{StoreFault}
use Rattle.bundle_store.specs.declared.recovery.Recovery.{Recovery}
use Rattle.bundle_store.specs.Recover.{EachBundleMidway, EachKeptOrOnTheWay, EachStandsForOneOf, IsRecovered, Leaves, LeavesJournal, OnBadJournal, OnClosed, RecoverySays, synced_disk}
use Rattle.bundle_pack.specs.Opening.{StandsLeft}

-- What one call of `recover` does, whatever it answers: all that it promises.
pub record Recovers (old new : History) : Type 0 where
  pub answer : Result Recovery StoreFault
  pub says : RecoverySays (contents Bundle old) (contents Journal old) answer
  pub images : During (EachStandsForOneOf (current old)) old new
  pub bytes : During (EachBundleMidway (current old)) old new
  pub files : During (EachKeptOrOnTheWay (current old)) old new
  pub done : OnOk answer (IsRecovered (contents Bundle old) (contents Journal old) (current new))
  pub leaves : IfOk answer (λ found. Leaves (contents Bundle old) (contents Journal old) found
      (contents Bundle new))
  pub journal : IfOk answer (λ found. LeavesJournal (contents Journal old) found
      (contents Journal new))
  pub closed : OnClosed answer (current new ≡ synced_disk (current old))
  pub refused : OnBadJournal answer (current new ≡ synced_disk (current old))

-- Neither file changes at all; or both change by one call of `recover`, and from its end on they
-- are at each moment as it left them.
abbrev pub ChangesByRecovery : History → History → Type 0
ChangesByRecovery old new = During (λ d. d ≡ current old) old new
    ⊎ ((left : History) × (Recovers old left × During (λ d. d ≡ current left) left new))

-- What a call leaves that recovers, if it does that much, and changes nothing else: each image at
-- each moment stands for a map that an image at the start stood for, and has both files of the
-- start, or what a recovery makes of them; and the bundle is what a recovery leaves, or as it was.
pub record AtMostRecovers (old new : History) : Type 0 where
  pub images : During (EachStandsForOneOf (current old)) old new
  pub bytes : During (EachBundleMidway (current old)) old new
  pub files : During (EachKeptOrOnTheWay (current old)) old new
  pub changes : ChangesByRecovery old new
  pub bundle : StandsLeft old new ⊎ (contents Bundle new ≡ contents Bundle old)
