-- The different values of a list, gathered in the order in which they first come.
use Rattle.std.proofs.Common.{◌≡◌, ℕ, zero, suc, ◌<◌, ◌≤◌, ◌⊎◌, ◌||◌, eqb, Bool, true, false, List, [], ◌∷◌, ◌++◌, length, get_or, replicate, set, take, refl, sym, ap, drop, ◌∙◌, inl, inr, arith}
use Rattle.std.specs.List.Sorted.{IsPermutation, IsSorted}
use Rattle.std.specs.Ordering.{nat_cmp}
use Rattle.std.proofs.lemmas.Bool.{cases_lt, true≢false}
use Rattle.std.proofs.lemmas.Bool.Decides.{eqb_tells}
use Rattle.std.proofs.lemmas.List.{append-nil, append_assoc, get_or-set_other, get_or-set_same, length-append, take-append-drop}
use Rattle.std.proofs.lemmas.List.Sorted.{IsNonDecreasingBy-from_sort, IsPermutation-sym, length_permutation}
use Rattle.lut_stuff.specs.Tables.{distinct_above_0, entries_of, occurs}
use Rattle.lut_stuff.specs.inside.Slots.{AreDistinct, AreSlots, slot_of}
use Rattle.lut_stuff.proofs.Marked.{distinct_known, distinct_new, distinct_none, occurs_end}
use Rattle.lut_stuff.proofs.Rising.{has_occurs, has_permuted, occurs_has, risen, risen_entries, risen_whole, up_from}
use Rattle.lut_stuff.proofs.Tabled.{distinct_is}

or_false : (b : Bool) → (b || false) ≡ b
or_false true = refl
or_false false = refl

or_true : (b : Bool) → (b || true) ≡ true
or_true true = refl
or_true false = refl

-- ---- one more value

occurs_last : (xs : List ℕ) (v : ℕ) → occurs (xs ++ v ∷ []) v ≡ true
occurs_last xs v = elim (eqb_tells v v) [
  | inl same ↦ occurs_end xs v v ∙ (rw (same.0) (or_true (occurs xs v)))
  | inr other ↦ absurd (other.1 refl)
]

occurs_other : (xs : List ℕ) (v k : ℕ) → (k ≡ v → ⊥) → occurs (xs ++ v ∷ []) k ≡ occurs xs k
occurs_other xs v k not_v = elim (eqb_tells k v) [
  | inl same ↦ absurd (not_v same.1)
  | inr other ↦ occurs_end xs v k ∙ (rw (other.0) (or_false (occurs xs k)))
]

occurs_still : (xs : List ℕ) (v k : ℕ) → occurs xs k ≡ true → occurs (xs ++ v ∷ []) k ≡ true
occurs_still xs v k h = occurs_end xs v k ∙ ap (λ (b : Bool). b || eqb k v) h

occurs_known : (xs : List ℕ) (v k : ℕ) → occurs xs v ≡ true → occurs (xs ++ v ∷ []) k ≡ occurs xs k
occurs_known xs v k known = elim (eqb_tells k v) [
  | inl same ↦ ap (λ (n : ℕ). occurs (xs ++ v ∷ []) n) same.1 ∙ occurs_last xs v ∙ sym known ∙ ap (occurs xs) (sym same.1)
  | inr other ↦ occurs_other xs v k other.1
]

-- ---- the slots

pub slots_none : AreSlots [] (replicate 256 zero)
slots_none = record {
  known = λ k some. absurd (omega (arith, some, zeros 256 k));
  taken = λ v some h. absurd (true≢false (sym h));
}
  where
    zeros : (n k : ℕ) → get_or (replicate n zero) k 0 ≡ 0
    zeros zero k = refl
    zeros (suc n) zero = refl
    zeros (suc n) (suc k) = zeros n k

-- the slots stay where the value is 0, or its slot has it
pub slots_stay : (values slots : List ℕ) (v : ℕ) → (v ≡ 0) ⊎ (get_or slots (slot_of v) 0 ≡ v) → AreSlots values slots → AreSlots (values ++ v ∷ []) slots
slots_stay values slots v there s = record {
  known = λ k some. occurs_still values v (get_or slots k 0) (s.known k some);
  taken = λ k some h. elim (eqb_tells k v) [
    | inl same ↦ here k some same.1 there
    | inr other ↦ s.taken k some (sym (occurs_other values v k other.1) ∙ h)
  ];
}
  where
    here : (k : ℕ) → 0 < k → k ≡ v → (v ≡ 0) ⊎ (get_or slots (slot_of v) 0 ≡ v) → 0 < get_or slots (slot_of k) 0
    here k some same (inl none) = absurd (omega (arith, some, same, none))
    here k some same (inr has) = let e : get_or slots (slot_of k) 0 ≡ get_or slots (slot_of v) 0 = ap (λ (n : ℕ). get_or slots (slot_of n) 0) same in omega (arith, e, has, same, some)

-- a value above 0 takes its slot
pub slots_set : (values slots : List ℕ) (v n : ℕ) → 0 < v → n ≡ slot_of v → n < length slots → AreSlots values slots → AreSlots (values ++ v ∷ []) (set slots n v)
slots_set values slots v n some at within s = record {
  known = λ k there. elim (eqb_tells k n) [
    | inl same ↦ ap (occurs (values ++ v ∷ [])) (here k same.1) ∙ occurs_last values v
    | inr other ↦ let e : get_or (set slots n v) k 0 ≡ get_or slots k 0 = get_or-set_other slots n k v 0 other.1 in
        ap (occurs (values ++ v ∷ [])) e ∙ occurs_still values v (get_or slots k 0) (s.known k (omega (arith, e, there)))
  ];
  taken = λ k above h. elim (eqb_tells (slot_of k) n) [
    | inl same ↦ omega (arith, here (slot_of k) same.1, some)
    | inr other ↦ let e : get_or (set slots n v) (slot_of k) 0 ≡ get_or slots (slot_of k) 0 = get_or-set_other slots n (slot_of k) v 0 other.1 in
        omega (arith, e, s.taken k above (sym (occurs_other values v k (λ same. other.1 (ap slot_of same ∙ sym at))) ∙ h))
  ];
}
  where
    here : (k : ℕ) → k ≡ n → get_or (set slots n v) k 0 ≡ v
    here k same = ap (λ (j : ℕ). get_or (set slots n v) j 0) same ∙ get_or-set_same slots n v 0 within

-- the number in a slot is a value
pub slot_known : (values slots : List ℕ) (v n : ℕ) → get_or slots n 0 ≡ v → AreSlots values slots → 0 < v → occurs values v ≡ true
slot_known values slots v n at s some = ap (occurs values) (sym at) ∙ s.known n (omega (arith, at, some))

-- a value whose slot is empty is new
pub slot_empty : (values slots : List ℕ) (v : ℕ) → 0 < v → get_or slots (slot_of v) 0 ≡ 0 → AreSlots values slots → occurs values v ≡ false
slot_empty values slots v some empty s = pick (occurs values v) refl
  where
    pick : (b : Bool) → occurs values v ≡ b → b ≡ false
    pick false e = refl
    pick true e = absurd (omega (arith, s.taken v some e, empty))

-- ---- the found ones

pub distinct_start : AreDistinct [] []
distinct_start = record { count = sym distinct_none; zero = refl; others = λ v some. refl }

-- a value that is 0, or known, adds none
pub distinct_stay : (values found : List ℕ) (v : ℕ) → (0 < v → occurs values v ≡ true) → AreDistinct values found → AreDistinct (values ++ v ∷ []) found
distinct_stay values found v known d = record {
  count = d.count ∙ sym (distinct_known values v known);
  zero = d.zero;
  others = λ k some. d.others k some ∙ sym (same k some);
}
  where
    same : (k : ℕ) → 0 < k → occurs (values ++ v ∷ []) k ≡ occurs values k
    same k some = elim (cases_lt 0 v) [
      | inl above ↦ occurs_known values v k (known above)
      | inr none ↦ occurs_other values v k (λ e. omega (arith, e, some, none))
    ]

-- a new one is added
pub distinct_added : (values found : List ℕ) (v : ℕ) → 0 < v → occurs values v ≡ false → AreDistinct values found → AreDistinct (values ++ v ∷ []) (found ++ v ∷ [])
distinct_added values found v some new d = record {
  count = length-append found (v ∷ []) ∙ omega (arith, d.count, distinct_new values v some new);
  zero = occurs_other found v 0 (λ e. omega (arith, e, some)) ∙ d.zero;
  others = λ k above. occurs_end found v k ∙ ap (λ (b : Bool). b || eqb k v) (d.others k above) ∙ sym (occurs_end values v k);
}

-- ---- more values have no fewer different ones

distinct_end : (xs : List ℕ) (v : ℕ) → distinct_above_0 xs ≤ distinct_above_0 (xs ++ v ∷ [])
distinct_end xs v = elim (cases_lt 0 v) [
  | inl some ↦ pick (occurs xs v) refl some
  | inr none ↦ omega (arith, distinct_known xs v (λ some. absurd (omega (arith, some, none))))
]
  where
    pick : (b : Bool) → occurs xs v ≡ b → 0 < v → distinct_above_0 xs ≤ distinct_above_0 (xs ++ v ∷ [])
    pick true e some = omega (arith, distinct_known xs v (λ _. e))
    pick false e some = omega (arith, distinct_new xs v some e)

distinct_append : (xs ys : List ℕ) → distinct_above_0 xs ≤ distinct_above_0 (xs ++ ys)
distinct_append xs [] = omega (arith, ap distinct_above_0 (append-nil xs))
distinct_append xs (y ∷ ys) =
    omega (arith, distinct_end xs y, distinct_append (xs ++ y ∷ []) ys, ap distinct_above_0 (append_assoc xs (y ∷ []) ys))

pub distinct_taken : (values : List ℕ) (n : ℕ) → distinct_above_0 (take n values) ≤ distinct_above_0 values
distinct_taken values n = omega (arith, distinct_append (take n values) (drop n values), ap distinct_above_0 (take-append-drop n values))

-- ---- sorted

-- the found ones in order are the entries
pub sorted_entries : (values found sorted : List ℕ) → AreDistinct values found → IsPermutation found sorted → IsSorted nat_cmp sorted → sorted ≡ entries_of values
sorted_entries values found sorted d p up =
    let walk : risen 0 sorted ≡ entries_of values =
    risen_entries values sorted
    (λ z some h. occurs_has values z (sym (d.others z some) ∙ has_occurs found z (has_permuted sorted found z (IsPermutation-sym found sorted p) h)))
    (λ z some h. has_permuted found sorted z p (occurs_has found z (d.others z some ∙ has_occurs values z h)))
    (up_from 0 sorted (λ i lt. omega arith) (λ i j e le lt. IsNonDecreasingBy-from_sort (λ x. x) sorted up i j e le lt)) in
    let size : length (risen 0 sorted) ≡ length sorted = ap length walk ∙ sym (distinct_is values) ∙ sym d.count ∙ sym (length_permutation found sorted p) in
    sym (risen_whole 0 sorted size) ∙ walk
