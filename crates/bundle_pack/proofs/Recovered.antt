-- Nothing is done on a volume but a recovery.
use Rattle.std.proofs.Common.{◌≡◌, inl, inr, ℕ, List, Bool, IsTrue, refl, sym, ap, subst, ◌∙◌}
use Rattle.outside_io.specs.declared.volume.VolFile.TheVariants.{Bundle, Journal}
use Rattle.outside_io.specs.volume.Disk.{Disk}
use Rattle.outside_io.specs.volume.History.{During, History, contents, current}
use Rattle.outside_io.proofs.VolumeLemmas.Moments.{during_end, during_join, during_map, started}
use Rattle.bundle_store.specs.Recover.{EachBundleMidway, EachKeptOrOnTheWay, EachStandsForOneOf}
use Rattle.opened_bundle.specs.Left.{IsLeft}
use Rattle.bundle_pack.specs.Opening.{StandsLeft}
use Rattle.bundle_pack.specs.Recovering.{AtMostRecovers, ChangesByRecovery}
use Rattle.bundle_pack.specs.Sources.{RecoversAlone}

-- calls behind a run of calls that change nothing
pub still_on : (old mid new : History) → During (λ d. d ≡ current old) old mid → During (λ d. d ≡ current mid) mid new → During (λ d. d ≡ current old) old new
still_on old mid new one two =
    let end : current mid ≡ current old = during_end (λ d. d ≡ current old) old mid one in
    during_join (λ d. d ≡ current old) old mid new one (during_map (λ d. d ≡ current mid) (λ d. d ≡ current old) mid new (λ d e. e ∙ end) two)

pub images_on : (old mid new : History) → During (EachStandsForOneOf (current old)) old mid → During (λ d. d ≡ current mid) mid new → During (EachStandsForOneOf (current old)) old new
images_on old mid new one two =
    let base = during_end (EachStandsForOneOf (current old)) old mid one in
    during_join (EachStandsForOneOf (current old)) old mid new one
    (during_map (λ d. d ≡ current mid) (EachStandsForOneOf (current old)) mid new (λ d e. subst (EachStandsForOneOf (current old)) (sym e) base) two)

pub bytes_on : (old mid new : History) → During (EachBundleMidway (current old)) old mid → During (λ d. d ≡ current mid) mid new → During (EachBundleMidway (current old)) old new
bytes_on old mid new one two =
    let base = during_end (EachBundleMidway (current old)) old mid one in
    during_join (EachBundleMidway (current old)) old mid new one
    (during_map (λ d. d ≡ current mid) (EachBundleMidway (current old)) mid new (λ d e. subst (EachBundleMidway (current old)) (sym e) base) two)

pub files_on : (old mid new : History) → During (EachKeptOrOnTheWay (current old)) old mid → During (λ d. d ≡ current mid) mid new → During (EachKeptOrOnTheWay (current old)) old new
files_on old mid new one two =
    let base = during_end (EachKeptOrOnTheWay (current old)) old mid one in
    during_join (EachKeptOrOnTheWay (current old)) old mid new one
    (during_map (λ d. d ≡ current mid) (EachKeptOrOnTheWay (current old)) mid new (λ d e. subst (EachKeptOrOnTheWay (current old)) (sym e) base) two)

pub changes_on : (old mid new : History) → ChangesByRecovery old mid → During (λ d. d ≡ current mid) mid new → ChangesByRecovery old new
changes_on old mid new (inl still) rest = inl (still_on old mid new still rest)
changes_on old mid new (inr (left, (recovered, still))) rest = inr (left, (recovered, still_on left mid new still rest))

pub contents_on : (old new : History) → During (λ d. d ≡ current old) old new → contents Bundle new ≡ contents Bundle old
contents_on old new during = ap (λ (d : Disk). d.bundle.now) (during_end (λ d. d ≡ current old) old new during)

pub left_on : (old mid new : History) → StandsLeft old mid → During (λ d. d ≡ current mid) mid new → StandsLeft old new
left_on old mid new left rest = subst (λ (c : List ℕ). IsLeft (contents Bundle old) (contents Journal old) c) (sym (contents_on mid new rest)) left

-- nothing is done at all
pub unchanged : (h : History) → ChangesByRecovery h h
unchanged h = inl (started (λ d. d ≡ current h) h refl)

-- each image stands for what it stands for
pub keeps_itself : (d : Disk) → EachStandsForOneOf d d
keeps_itself d = λ b j ib ij. record { bundle = b; journal = j; bundle_is = ib; journal_is = ij; same = λ m stands. stands }

pub bytes_themselves : (d : Disk) → EachBundleMidway d d
bytes_themselves d = λ b ib. inl ib

pub files_themselves : (d : Disk) → EachKeptOrOnTheWay d d
files_themselves d = λ b j ib ij. inl (ib, ij)

pub untouched : (h : History) → AtMostRecovers h h
untouched h = record {
  images = started (EachStandsForOneOf (current h)) h (keeps_itself (current h));
  bytes = started (EachBundleMidway (current h)) h (bytes_themselves (current h));
  files = started (EachKeptOrOnTheWay (current h)) h (files_themselves (current h));
  changes = unchanged h;
  bundle = inr refl;
}

-- a volume that was opened, or of which that was refused
pub opened : {V : Type 0} (told : V → Bool) (history : V → History) (v w : V) → IsTrue (told v) → RecoversAlone told history v w → StandsLeft (history v) (history w) → AtMostRecovers (history v) (history w)
opened told history v w tells kept left = record { images = kept.images tells; bytes = kept.bytes tells; files = kept.files tells; changes = kept.changes tells; bundle = inl left }

-- and calls behind that that change nothing
pub recovers_on : (old mid new : History) → AtMostRecovers old mid → During (λ d. d ≡ current mid) mid new → AtMostRecovers old new
recovers_on old mid new so rest =
    let same : contents Bundle new ≡ contents Bundle mid = contents_on mid new rest in
    record {
      images = images_on old mid new so.images rest;
      bytes = bytes_on old mid new so.bytes rest;
      files = files_on old mid new so.files rest;
      changes = changes_on old mid new so.changes rest;
      bundle = elim so.bundle [
        | inl left ↦ inl (left_on old mid new left rest)
        | inr is ↦ inr (same ∙ is)
      ];
    }
