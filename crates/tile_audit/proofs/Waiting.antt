-- Tiles that wait, slot by slot.
use Rattle.std.proofs.Common.{◌≡◌, ◌⊎◌, inl, inr, ℕ, ◌+◌, ◌-◌, ◌<◌, ◌≤◌, Bool, IsTrue, List, [], ◌∷◌, ◌++◌, All, Option, Some, None, Ok, sym, subst, arith}
use Rattle.std.specs.Prelude.{IfSome, cond, count_by}
use Rattle.std.specs.List.{AllZip}
use Rattle.std.proofs.lemmas.List.{length-append}
use Rattle.std.proofs.lemmas.List.Elements.{All-push}
use Rattle.std.proofs.lemmas.List.Quantifiers.{all_pairs_push}
use Rattle.outside_io.specs.streams.Faults.{FailedBetween}
use Rattle.bundle_index.specs.Entry.{entry_at}
use Rattle.tile_audit.specs.declared.batch.Content.{Content}
use Rattle.tile_audit.specs.declared.batch.Content.TheVariants as taken
use Rattle.tile_audit.specs.declared.batch.Waiting.{Waiting}
use Rattle.tile_audit.specs.inside.Waits.{CountsContent, CountsLook, HasLooked, IsLookedAt, IsWaiting, MayWait, has_failed, is_unreadable, with_found}
use Rattle.tile_audit.specs.inside.Walks.{AreWaiting, IsBetween, slots_between}
use Rattle.tile_audit.proofs.Joins.{count_push}
use Rattle.tile_audit.proofs.Slots.{between_none, between_push, between_skip}
use Rattle.tile_audit.proofs.Zips.{zip_push}

pub none_wait : (told : Bool) (bundle : List ℕ) (from old : ℕ) → AreWaiting told bundle from from [] old old
none_wait told bundle from old = record {
  waits = λ tells. subst (λ l. AllZip (IsWaiting bundle) l []) (sym (between_none bundle from)) tt;
  few = omega arith;
  may_be = λ k d less. absurd (omega (arith, less));
  between = λ k d less. absurd (omega (arith, less));
  rising = λ i j d less within. absurd (omega (arith, within));
  counts = omega arith;
  failed = inl (omega arith);
  rose = λ less. absurd (omega (arith, less));
}

wider : (from to : ℕ) (waiting : List Waiting) → All (IsBetween from to) waiting → All (IsBetween from (to + 1)) waiting
wider from to waiting all = λ k d less. let is = all k d less in (is.0, omega (arith, is.1))

-- the next slot has no tile
pub none_more : (told : Bool) (bundle : List ℕ) (from to : ℕ) (waiting : List Waiting) (old mid new : ℕ) → from ≤ to → AreWaiting told bundle from to waiting old mid → (IsTrue told → (entry_at bundle to).size ≡ 0)
    → new ≡ mid → AreWaiting told bundle from (to + 1) waiting old new
none_more told bundle from to waiting old mid new low are none same = record {
  waits = λ tells. subst (λ l. AllZip (IsWaiting bundle) l waiting) (sym (between_skip bundle from to low (none tells))) (are.waits tells);
  few = omega (arith, are.few);
  may_be = are.may_be;
  between = wider from to waiting are.between;
  rising = are.rising;
  counts = omega (arith, are.counts, same);
  failed = subst (λ n. (count_by is_unreadable waiting ≤ n - old) ⊎ (18446744073709551615 ≤ n)) (sym same) are.failed;
  rose = λ less. are.rose (omega (arith, less, same));
}

-- what a tile more counts
record Counted (one old new n : ℕ) : Type 0 where
  pub counts : old ≤ new
  pub failed : (n + one ≤ new - old) ⊎ (18446744073709551615 ≤ new)
  pub rose : old < new → 0 < n + one

after_failed : (old mid new n : ℕ) → old ≤ mid → mid ≤ new → ((n ≤ mid - old) ⊎ (18446744073709551615 ≤ mid)) → FailedBetween mid new → (n + 1 ≤ new - old) ⊎ (18446744073709551615 ≤ new)
after_failed old mid new n low up (inr end) failed = inr (omega (arith, end, up))
after_failed old mid new n low up (inl few) (inr end) = inr (omega (arith, end))
after_failed old mid new n low up (inl few) (inl rose) = inl (omega (arith, few, rose, low))

counted_same : (old mid new n : ℕ) → old ≤ mid → ((n ≤ mid - old) ⊎ (18446744073709551615 ≤ mid)) → (old < mid → 0 < n) → new ≡ mid → Counted 0 old new n
counted_same old mid new n low few rose same = record {
  counts = omega (arith, low, same);
  failed = subst (λ (k : ℕ). (n + 0 ≤ k - old) ⊎ (18446744073709551615 ≤ k)) (sym same) (subst (λ (m : ℕ). (m ≤ mid - old) ⊎ (18446744073709551615 ≤ mid)) (let e : n ≡ n + 0 = omega arith in e) few);
  rose = λ less. let some = rose (omega (arith, less, same)) in omega (arith, some);
}

counted : (c : Content) (old mid new n : ℕ) → old ≤ mid → ((n ≤ mid - old) ⊎ (18446744073709551615 ≤ mid)) → (old < mid → 0 < n) → CountsContent c mid new → Counted (cond (has_failed c) 1 0) old new n
counted taken.Failed old mid new n low few rose now = record {
  counts = omega (arith, low, now.0);
  failed = after_failed old mid new n low now.0 few now.1;
  rose = λ less. omega arith;
}
counted (taken.Beyond got) old mid new n low few rose now = counted_same old mid new n low few rose now
counted (taken.Tile tile bad) old mid new n low few rose now = counted_same old mid new n low few rose now

-- the next slot has a tile, which waits
pub one_more : (told : Bool) (bundle : List ℕ) (from to : ℕ) (waiting : List Waiting) (w : Waiting) (old mid new : ℕ) → from ≤ to → AreWaiting told bundle from to waiting old mid
    → (IsTrue told → (0 < (entry_at bundle to).size) × IsWaiting bundle to w) → w.slot ≡ to → MayWait w → CountsContent w.content mid new → AreWaiting told bundle from (to + 1) (waiting ++ w ∷ []) old new
one_more told bundle from to waiting w old mid new low are waits slot may counts =
    let now = counted w.content old mid new (count_by is_unreadable waiting) are.counts are.failed are.rose counts in
    let more : count_by is_unreadable (waiting ++ w ∷ []) ≡ count_by is_unreadable waiting + cond (has_failed w.content) 1 0 = count_push is_unreadable waiting w in
    record {
      waits = λ tells. subst (λ l. AllZip (IsWaiting bundle) l (waiting ++ w ∷ [])) (sym (between_push bundle from to low (waits tells).0)) (zip_push (IsWaiting bundle) (slots_between bundle from to) to waiting w (are.waits tells) (waits tells).1);
      few = omega (arith, are.few, length-append waiting (w ∷ []));
      may_be = All-push MayWait waiting w are.may_be may;
      between = All-push (IsBetween from (to + 1)) waiting w (wider from to waiting are.between) (omega (arith, slot, low), omega (arith, slot));
      rising = all_pairs_push (λ v x. v.slot < x.slot) waiting w are.rising (λ k d less. let is = are.between k d less in omega (arith, is.1, slot));
      counts = now.counts;
      failed = subst (λ (n : ℕ). (n ≤ new - old) ⊎ (18446744073709551615 ≤ new)) (sym more) now.failed;
      rose = λ less. let some = now.rose less in omega (arith, some, more);
    }

-- the next slot was looked at
pub look_more : (told : Bool) (bundle : List ℕ) (from to : ℕ) (waiting after : List Waiting) (old mid new : ℕ) → from ≤ to → AreWaiting told bundle from to waiting old mid → HasLooked told bundle to waiting after mid new → AreWaiting told bundle from (to + 1) after old new
look_more told bundle from to waiting after old mid new low are looked =
    subst (λ l. AreWaiting told bundle from (to + 1) l old new) (sym looked.waits) (by looked.found looked.looked looked.may_wait looked.counts)
  where
    by : (found : Option Waiting) → (IsTrue told → IsLookedAt bundle to found) → IfSome found (λ w. (w.slot ≡ to) × MayWait w) → CountsLook {E = Unit {0}} (Ok found) mid new → AreWaiting told bundle from (to + 1) (with_found waiting found) old new
    by None is may counts = none_more told bundle from to waiting old mid new low are is counts
    by (Some w) is may counts = one_more told bundle from to waiting w old mid new low are is may.0 may.1 counts

-- where the volume tells no more than it told, and what it holds is the same
pub looked_so : (some told : Bool) (b bundle : List ℕ) (slot : ℕ) (before after : List Waiting) (old new : ℕ) → HasLooked some b slot before after old new → (IsTrue told → IsTrue some) → (IsTrue told → b ≡ bundle) → HasLooked told bundle slot before after old new
looked_so some told b bundle slot before after old new is tells same = record {
  found = is.found;
  looked = λ t. subst (λ l. IsLookedAt l slot is.found) (same t) (is.looked (tells t));
  may_wait = is.may_wait;
  counts = is.counts;
  waits = is.waits;
}

pub waiting_so : (some told : Bool) (b bundle : List ℕ) (from to : ℕ) (waiting : List Waiting) (old new : ℕ) → AreWaiting some b from to waiting old new → (IsTrue told → IsTrue some) → (IsTrue told → b ≡ bundle) → AreWaiting told bundle from to waiting old new
waiting_so some told b bundle from to waiting old new are tells same = record {
  waits = λ t. subst (λ l. AllZip (IsWaiting l) (slots_between l from to) waiting) (same t) (are.waits (tells t));
  few = are.few;
  may_be = are.may_be;
  between = are.between;
  rising = are.rising;
  counts = are.counts;
  failed = are.failed;
  rose = are.rose;
}
