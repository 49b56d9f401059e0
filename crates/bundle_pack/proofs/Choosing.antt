-- The entry that counts, and its size.
use Rattle.std.proofs.Common.{◌≡◌, inl, inr, ℕ, zero, suc, ◌+◌, ◌<◌, ◌==◌, List, [], ◌∷◌, slice_get, Some, None, Bool, false, refl, sym, ap, ◌∙◌, arith}
use Rattle.std.specs.Prelude.{if◌then◌else◌}
use Rattle.std.proofs.lemmas.Bool.{cases_lt, cases_Bool, eqb-true}
use Rattle.std.proofs.lemmas.Option.{slice_get_within}
use Rattle.bundle_index.specs.Entry.{entry_at}
use Rattle.bundle_index.specs.declared.entry.Entry.{Entry}
use Rattle.bundle_store.specs.Session.{Serves, SessionState}
use Rattle.bundle_pack.specs.Chosen.{IsChosen, chosen_bytes, chosen_size}
use Rattle.bundle_pack.specs.declared.chosen.Choice.{Choice}
use Rattle.bundle_pack.specs.inside.Collecting.{AreServed, IsChoice}
use Rattle.bundle_pack.proofs.Volumes.{one_some}

pub size-nil : (slot : ℕ) → chosen_size [] slot ≡ 0
unfolding chosen_size
size-nil slot = refl

pub size-cons : (b : List ℕ) (bs : List (List ℕ)) (slot : ℕ) → chosen_size (b ∷ bs) slot ≡ (if chosen_size bs slot == 0 then (entry_at b slot).size else chosen_size bs slot)
unfolding chosen_size
size-cons b bs slot = refl

pub bytes-zero : (bundles : List (List ℕ)) → chosen_bytes bundles 0 ≡ 0
unfolding chosen_bytes
bytes-zero bundles = refl

pub bytes-suc : (bundles : List (List ℕ)) (slot : ℕ) → chosen_bytes bundles (suc slot) ≡ chosen_bytes bundles slot + chosen_size bundles slot
unfolding chosen_bytes
bytes-suc bundles slot = refl

-- none has a size
pub size_none : (bundles : List (List ℕ)) (slot : ℕ) → ((i : ℕ) (b : List ℕ) → slice_get bundles i ≡ Some b → (entry_at b slot).size ≡ 0) → chosen_size bundles slot ≡ 0
size_none [] slot none = size-nil slot
size_none (b ∷ bs) slot none =
    let later : chosen_size bs slot ≡ 0 = size_none bs slot (λ i c there. none (suc i) c there) in
    size-cons b bs slot ∙ ap (λ (n : ℕ). if n == 0 then (entry_at b slot).size else n) later ∙ none 0 b refl

-- that of the last which has one
pub size_chosen : (bundles : List (List ℕ)) (slot at : ℕ) (bundle : List ℕ) → IsChosen bundles slot at bundle → chosen_size bundles slot ≡ (entry_at bundle slot).size
size_chosen [] slot at bundle is = absurd (omega (arith, slice_get_within [] at bundle is.there))
size_chosen (b ∷ bs) slot zero bundle is =
    let later : chosen_size bs slot ≡ 0 = size_none bs slot (λ i c there. is.last (suc i) c (omega arith) there) in
    size-cons b bs slot ∙ ap (λ (n : ℕ). if n == 0 then (entry_at b slot).size else n) later ∙ ap (λ (c : List ℕ). (entry_at c slot).size) (one_some b bundle is.there)
size_chosen (b ∷ bs) slot (suc at) bundle is =
    let later : chosen_size bs slot ≡ (entry_at bundle slot).size = size_chosen bs slot at bundle (record { there = is.there; some = is.some; last = λ i c above there. is.last (suc i) c (omega (arith, above)) there }) in
    size-cons b bs slot ∙ kept (chosen_size bs slot) (entry_at b slot).size (omega (arith, later, is.some)) ∙ later
  where
    eqb_no : (n : ℕ) → 0 < n → (n == 0) ≡ false
    eqb_no n some = elim (cases_Bool (n == 0)) [ inl is ↦ absurd (omega (arith, some, eqb-true n 0 is)) | inr not ↦ not ]

    kept : (n m : ℕ) → 0 < n → (if n == 0 then m else n) ≡ n
    kept n m some = ap (λ (t : Bool). if t then m else n) (eqb_no n some)

-- one entry counts
pub chosen_number : (bundles : List (List ℕ)) (slot at other : ℕ) (a b : List ℕ) → IsChosen bundles slot at a → IsChosen bundles slot other b → at ≡ other
chosen_number bundles slot at other a b one two = elim (cases_lt at other) [
  | inl less ↦ absurd (omega (arith, one.last other b less two.there, two.some))
  | inr ge ↦ elim (cases_lt other at) [
    | inl more ↦ absurd (omega (arith, two.last at a more one.there, one.some))
    | inr le ↦ let same : at ≡ other = omega (arith, ge, le) in same
  ]
]

pub chosen_once : (bundles : List (List ℕ)) (slot at other : ℕ) (a b : List ℕ) → IsChosen bundles slot at a → IsChosen bundles slot other b → a ≡ b
chosen_once bundles slot at other a b one two = one_some a b (sym one.there ∙ ap (slice_get bundles) (chosen_number bundles slot at other a b one two) ∙ two.there)

-- the size of the entry that counts, by what was chosen
pub choice_size : (bundles : List (List ℕ)) (slot number : ℕ) (c : Choice) → slot ≡ number → IsChoice bundles slot (Some c) → c.size ≡ chosen_size bundles number
choice_size bundles slot number c same (bundle, (is, size)) = sym size ∙ sym (size_chosen bundles slot c.at bundle is) ∙ ap (chosen_size bundles) same

pub none_size : (bundles : List (List ℕ)) (slot number : ℕ) → slot ≡ number → IsChoice bundles slot None → ◌≡◌ {A = ℕ} 0 (chosen_size bundles number)
none_size bundles slot number same none = sym (size_none bundles slot none) ∙ ap (chosen_size bundles) same

-- one of the sizes
pub size_of_one : (bundles : List (List ℕ)) (sessions : List SessionState) (slot at : ℕ) (s : SessionState) (b : List ℕ) (e : Entry) → AreServed sessions bundles → slice_get sessions at ≡ Some s → slice_get bundles at ≡ Some b
    → ((bundle : List ℕ) → Serves s bundle → e ≡ entry_at bundle slot) → (entry_at b slot).size ≡ e.size
size_of_one bundles sessions slot at s b e served first there value = ap (λ (x : Entry). x.size) (sym (value b (served.each at s b first there)))
