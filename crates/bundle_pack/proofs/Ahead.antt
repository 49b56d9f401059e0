-- What was read at once of each source stays so.
use Rattle.std.proofs.Common.{◌≡◌, inl, inr, ℕ, List, [], length, slice_get, slice_set, Some, Bool, IsTrue, sym, ap, subst, ◌∙◌}
use Rattle.std.specs.Prelude.{All}
use Rattle.std.proofs.lemmas.Bool.{cases_eq}
use Rattle.std.proofs.lemmas.List.{length-set}
use Rattle.std.proofs.lemmas.Option.{slice_get_within, slice_get-get_or}
use Rattle.outside_io.specs.declared.volume.VolFile.TheVariants.{Bundle}
use Rattle.outside_io.specs.volume.History.{History, contents}
use Rattle.bundle_store.specs.Ahead.{AheadBytes, IsAheadOf}
use Rattle.bundle_store.proofs.Cutting.{ahead_none}
use Rattle.bundle_pack.specs.inside.Collecting.{AreAhead, IsStill}
use Rattle.bundle_pack.proofs.Recovered.{contents_on}
use Rattle.bundle_pack.proofs.Volumes.{get_other, get_same, one_some}

module _ {V : Type 0} (told : V → Bool) (history : V → History) where
  none_at : (aheads : List AheadBytes) (i : ℕ) (a : AheadBytes) → All (λ x. x.bytes ≡ []) aheads → slice_get aheads i ≡ Some a → a.bytes ≡ []
  none_at aheads i a none there =
      let less = slice_get_within aheads i a there in
      let is = one_some _ _ (sym (slice_get-get_or aheads i a less) ∙ there) in
      subst (λ (x : AheadBytes). x.bytes ≡ []) is (none i a less)

  -- before anything was read
  pub ahead_start : (vs : List V) (aheads : List AheadBytes) → length aheads ≡ length vs → All (λ x. x.bytes ≡ []) aheads → AreAhead told history vs aheads
  ahead_start vs aheads many none = record {
    many = many;
    each = λ i v a first then tells. ahead_none (contents Bundle (history v)) a (none_at aheads i a none then);
  }

  -- of a volume that is still
  pub ahead_still : (faults : V → ℕ) (failed : Type 0) (x y : V) (a : AheadBytes) → IsStill told history faults failed x y → (IsTrue (told x) → IsAheadOf (contents Bundle (history x)) a)
      → IsTrue (told y) → IsAheadOf (contents Bundle (history y)) a
  ahead_still faults failed x y a still so tells =
      let before = subst (λ b. IsTrue b) still.told_same tells in
      subst (λ (b : List ℕ). IsAheadOf b a) (sym (contents_on (history x) (history y) (still.still before))) (so before)

  -- none but one is read
  pub ahead_turn : (vs : List V) (aheads : List AheadBytes) (at : ℕ) (x y : V) (a b : AheadBytes) → slice_get vs at ≡ Some x → slice_get aheads at ≡ Some a → AreAhead told history vs aheads
      → (IsTrue (told y) → IsAheadOf (contents Bundle (history y)) b) → AreAhead told history (slice_set vs at y) (slice_set aheads at b)
  ahead_turn vs aheads at x y a b there beside so here = record {
    many = length-set aheads at b ∙ so.many ∙ sym (length-set vs at y);
    each = λ i v c first then tells. elim (cases_eq i at) [
      | inl same ↦
          let v_is : v ≡ y = one_some v y (sym first ∙ ap (slice_get (slice_set vs at y)) same ∙ get_same vs at y (slice_get_within vs at x there)) in
          let c_is : c ≡ b = one_some c b (sym then ∙ ap (slice_get (slice_set aheads at b)) same ∙ get_same aheads at b (slice_get_within aheads at a beside)) in
          subst (λ (w : V). IsAheadOf (contents Bundle (history w)) c) (sym v_is) (subst (IsAheadOf (contents Bundle (history y))) (sym c_is) (here (subst (λ (w : V). IsTrue (told w)) v_is tells)))
      | inr other ↦ so.each i v c (sym (get_other vs at i y other) ∙ first) (sym (get_other aheads at i b other) ∙ then) tells
    ];
  }
