-- Sources that are read from are still, and serve what they served.
use Rattle.std.proofs.Common.{◌≡◌, ◌≢◌, inl, inr, ℕ, List, slice_get, slice_set, Some, Result, Bool, IsTrue, refl, sym, subst, ◌∙◌, arith}
use Rattle.std.specs.Prelude.{All}
use Rattle.std.proofs.lemmas.Bool.{cases_lt}
use Rattle.std.proofs.lemmas.List.{length-map}
use Rattle.std.proofs.lemmas.Option.{slice_get_within}
use Rattle.outside_io.specs.declared.volume.VolFile.TheVariants.{Bundle, Journal}
use Rattle.outside_io.specs.streams.Faults.{IsCause}
use Rattle.outside_io.specs.volume.History.{History, contents, current}
use Rattle.outside_io.proofs.VolumeLemmas.Moments.{during_end, started}
use Rattle.bundle_store.specs.Recover.{EachBundleMidway, EachKeptOrOnTheWay, EachStandsForOneOf}
use Rattle.bundle_store.specs.Session.{Serves, SessionState}
use Rattle.bundle_pack.specs.Files.{all_bundles}
use Rattle.opened_bundle.specs.Left.{IsLeft, IsShut}
use Rattle.bundle_pack.specs.Sources.{Each, EachShut, IsServing, RecoversAlone, SourceMoves, WasOpened}
use Rattle.bundle_pack.specs.declared.fault.PackFault.{PackFault}
use Rattle.bundle_pack.specs.inside.Collecting.{AreServed, IsStill}
use Rattle.opened_bundle.proofs.BundleOpening.{still}
use Rattle.bundle_pack.proofs.Recovered.{bytes_on, bytes_themselves, changes_on, contents_on, files_on, files_themselves, images_on, keeps_itself, still_on, unchanged}
use Rattle.bundle_pack.proofs.Volumes.{all_of, each_join, each_map, each_same, each_turn, from_map, get_some, same_maps, told_at}

pub images_same : {V : Type 0} (told : V → Bool) (history : V → History) (v : V) → RecoversAlone told history v v
images_same told history v = record {
  told_same = refl;
  images = λ tells. started (EachStandsForOneOf (current (history v))) (history v) (keeps_itself (current (history v)));
  bytes = λ tells. started (EachBundleMidway (current (history v))) (history v) (bytes_themselves (current (history v)));
  files = λ tells. started (EachKeptOrOnTheWay (current (history v))) (history v) (files_themselves (current (history v)));
  changes = λ tells. unchanged (history v);
}

-- what a source that is read leaves, where none failed
pub still_same : {V : Type 0} (told : V → Bool) (history : V → History) (faults : V → ℕ) (failed : Type 0) (v : V) → (failed → ⊥) → IsStill told history faults failed v v
still_same told history faults failed v never = record {
  told_same = refl;
  still = λ tells. started (λ d. d ≡ current (history v)) (history v) refl;
  cause = still failed (faults v) (faults v) refl never;
}

-- none but one is touched
pub still_turn : {V : Type 0} (told : V → Bool) (history : V → History) (faults : V → ℕ) (failed : ℕ → Type 0) (vs : List V) (at : ℕ) (x y : V) → slice_get vs at ≡ Some x → IsStill told history faults (failed at) x y → ((i : ℕ) → i ≢ at → failed i → ⊥)
    → Each (λ i v w. IsStill told history faults (failed i) v w) vs (slice_set vs at y)
still_turn told history faults failed vs at x y there one others =
    each_turn (λ i v w. v ≡ w) (λ i v w. IsStill told history faults (failed i) v w) vs vs at x y (each_same (λ i v w. v ≡ w) vs (λ i v. refl)) there
    (λ v was same. subst (λ a. IsStill told history faults (failed at) a y) (sym same) one)
    (λ i v w other same. subst (λ a. IsStill told history faults (failed i) v a) same (still_same told history faults (failed i) v (others i other)))

pub still_join : {V : Type 0} (told : V → Bool) (history : V → History) (faults : V → ℕ) (failed : Type 0) (v m w : V) → IsStill told history faults ⊥ v m → IsStill told history faults failed m w → IsStill told history faults failed v w
still_join told history faults failed v m w first second =
    let same : faults m ≡ faults v = count_same (faults v) (faults m) first.cause in
    record {
      told_same = second.told_same ∙ first.told_same;
      still = λ tells.
          let one = first.still tells in
          let two = second.still (subst (λ b. IsTrue b) (sym first.told_same) tells) in
          still_on (history v) (history m) (history w) one two;
      cause = subst (λ n. IsCause failed n (faults w)) same second.cause;
    }
  where
    count_same : (old new : ℕ) → IsCause ⊥ old new → new ≡ old
    count_same old new cause = elim (cases_lt old new) [
      | inl more ↦ absurd (cause.rose more)
      | inr le ↦ let same : new ≡ old = omega (arith, cause.counts, le) in same
    ]

-- it serves what it served
pub still_serving : {V : Type 0} (told : V → Bool) (history : V → History) (faults : V → ℕ) (failed : ℕ → Type 0) (sessions : List SessionState) (old new : List V)
    → Each (λ i v w. IsStill told history faults (failed i) v w) old new → IsServing told history sessions old → IsServing told history sessions new
still_serving told history faults failed sessions old new so serving = record {
  many = serving.many ∙ sym so.many;
  each = λ i s w first then.
      let v = get_some old i (omega (arith, so.many, slice_get_within new i w then)) in
      let p = so.each i v.0 w v.1 then in
      let was = serving.each i s v.0 first v.1 in (
        was.0,
        λ tells.
            let told_old = subst (λ b. IsTrue b) p.told_same tells in
            subst (Serves s) (sym (contents_on (history v.0) (history w) (p.still told_old))) (was.1 told_old),
      );
}

pub still_bundles : {V : Type 0} (told : V → Bool) (history : V → History) (faults : V → ℕ) (failed : ℕ → Type 0) (old new : List V)
    → Each (λ i v w. IsStill told history faults (failed i) v w) old new → All (λ v. IsTrue (told v)) old → all_bundles history new ≡ all_bundles history old
still_bundles told history faults failed old new so all = same_maps (λ v. contents Bundle (history v)) old new so.many
    (λ i v w first then. contents_on (history v) (history w) ((so.each i v w first then).still (told_at told old i v all first)))

-- what is told stays told
pub still_told : {V : Type 0} (told : V → Bool) (history : V → History) (faults : V → ℕ) (failed : ℕ → Type 0) (old new : List V)
    → Each (λ i v w. IsStill told history faults (failed i) v w) old new → All (λ v. IsTrue (told v)) old → All (λ v. IsTrue (told v)) new
still_told told history faults failed old new so all = all_of (λ v. IsTrue (told v)) new (λ i w then.
    let v = get_some old i (omega (arith, so.many, slice_get_within new i w then)) in
    subst (λ b. IsTrue b) (sym (so.each i v.0 w v.1 then).told_same) (told_at told old i v.0 all v.1))

-- sessions that serve volumes serve what they tell
pub served : {V : Type 0} (told : V → Bool) (history : V → History) (sessions : List SessionState) (vs : List V) → IsServing told history sessions vs → All (λ v. IsTrue (told v)) vs → AreServed sessions (all_bundles history vs)
served told history sessions vs serving all = record {
  many = length-map vs (λ v. contents Bundle (history v)) ∙ sym serving.many;
  each = λ i s b first then.
      let v = from_map (λ v. contents Bundle (history v)) vs i b then in
      subst (Serves s) (sym v.1.1) ((serving.each i s v.0 first v.1.0).1 (told_at told vs i v.0 all v.1.0));
}

-- a source that was opened and then read
pub moved_still : {V : Type 0} (told : V → Bool) (history : V → History) (faults : V → ℕ) (before failed : Type 0) (v m w : V) → (before → ⊥) → SourceMoves told history faults before v m → IsStill told history faults failed m w → SourceMoves told history faults failed v w
moved_still told history faults before failed v m w never moved rest = record {
  kept = record {
    told_same = rest.told_same ∙ moved.kept.told_same;
    images = λ tells. images_on (history v) (history m) (history w) (moved.kept.images tells) (rest.still (later tells));
    bytes = λ tells. bytes_on (history v) (history m) (history w) (moved.kept.bytes tells) (rest.still (later tells));
    files = λ tells. files_on (history v) (history m) (history w) (moved.kept.files tells) (rest.still (later tells));
    changes = λ tells. changes_on (history v) (history m) (history w) (moved.kept.changes tells) (rest.still (later tells));
  };
  bundle = λ tells _.
      let same : contents Bundle (history w) ≡ contents Bundle (history m) = contents_on (history m) (history w) (rest.still (later tells)) in
      elim (moved.bundle tells never) [
        | inl left ↦ inl (subst (λ (c : List ℕ). IsLeft (contents Bundle (history v)) (contents Journal (history v)) c) (sym same) left)
        | inr is ↦ inr (same ∙ is)
      ];
  cause = subst (λ n. IsCause failed n (faults w)) (let e : faults m ≡ faults v = count (faults v) (faults m) moved.cause in e) rest.cause;
}
  where
    later : IsTrue (told v) → IsTrue (told m)
    later tells = subst (λ b. IsTrue b) (sym moved.kept.told_same) tells

    count : (old new : ℕ) → IsCause before old new → new ≡ old
    count old new cause = elim (cases_lt old new) [
      | inl more ↦ absurd (never (cause.rose more))
      | inr le ↦ let same : new ≡ old = omega (arith, cause.counts, le) in same
    ]

-- one call more, in which none failed
pub still_more : {V : Type 0} (told : V → Bool) (history : V → History) (faults : V → ℕ) (failed : ℕ → Type 0) (old mid new : List V) → ((i : ℕ) → failed i → ⊥)
    → Each (λ i v w. IsStill told history faults ⊥ v w) old mid → Each (λ i v w. IsStill told history faults (failed i) v w) mid new → Each (λ i v w. IsStill told history faults ⊥ v w) old new
still_more told history faults failed old mid new never first second =
    each_join (λ i v w. IsStill told history faults ⊥ v w) (λ i v w. IsStill told history faults (failed i) v w) (λ i v w. IsStill told history faults ⊥ v w) old mid new
    (λ i v m w one two.
    let all = still_join told history faults (failed i) v m w one two in
    record { told_same = all.told_same; still = all.still; cause = record { counts = all.cause.counts; failed = λ is. absurd is; rose = λ more. never i (all.cause.rose more) } }) first second

-- one call more, which may have failed
pub still_last : {V : Type 0} (told : V → Bool) (history : V → History) (faults : V → ℕ) (failed : ℕ → Type 0) (old mid new : List V)
    → Each (λ i v w. IsStill told history faults ⊥ v w) old mid → Each (λ i v w. IsStill told history faults (failed i) v w) mid new → Each (λ i v w. IsStill told history faults (failed i) v w) old new
still_last told history faults failed old mid new first second =
    each_join (λ i v w. IsStill told history faults ⊥ v w) (λ i v w. IsStill told history faults (failed i) v w) (λ i v w. IsStill told history faults (failed i) v w) old mid new
    (λ i v m w one two. still_join told history faults (failed i) v m w one two) first second

-- none did
pub still_all : {V : Type 0} (told : V → Bool) (history : V → History) (faults : V → ℕ) (failed : ℕ → Type 0) (old new : List V) → ((i : ℕ) → failed i → ⊥)
    → Each (λ i v w. IsStill told history faults ⊥ v w) old new → Each (λ i v w. IsStill told history faults (failed i) v w) old new
still_all told history faults failed old new never each =
    each_map (λ i v w. IsStill told history faults ⊥ v w) (λ i v w. IsStill told history faults (failed i) v w) old new
    (λ i v w less m. record { told_same = m.told_same; still = m.still; cause = record { counts = m.cause.counts; failed = λ is. absurd (never i is); rose = λ more. absurd (m.cause.rose more) } }) each

pub still_none : {V : Type 0} (told : V → Bool) (history : V → History) (faults : V → ℕ) (failed : ℕ → Type 0) (vs : List V) → ((i : ℕ) → failed i → ⊥) → Each (λ i v w. IsStill told history faults (failed i) v w) vs vs
still_none told history faults failed vs never = each_same (λ i v w. IsStill told history faults (failed i) v w) vs (λ i v. still_same told history faults (failed i) v (never i))

-- sources that were opened are shut behind reads, which change nothing
pub still_shut : {V X Y : Type 0} (told : V → Bool) (history : V → History) (faults : V → ℕ) (before failed : ℕ → Type 0) (old mid new : List V) (r : Result X PackFault) (s : Result Y PackFault)
    → ((i : ℕ) → WasOpened r i) → Each (λ i v w. SourceMoves told history faults (before i) v w) old mid → EachShut told history r old mid → Each (λ i v w. IsStill told history faults (failed i) v w) mid new
    → EachShut told history s old new
still_shut told history faults before failed old mid new r s opened moved shut reads = record {
  many = reads.many ∙ shut.many;
  each = λ i v w was is later tells.
      let m = get_some mid i (omega (arith, shut.many, slice_get_within old i v was)) in
      let tells_1 = subst (λ b. IsTrue b) (sym (moved.each i v m.0 was m.1).kept.told_same) tells in
      let end = during_end (λ d. d ≡ current (history m.0)) (history m.0) (history w) ((reads.each i m.0 w m.1 is).still tells_1) in
      subst IsShut (sym end) (shut.each i v m.0 was m.1 (opened i) tells);
}
