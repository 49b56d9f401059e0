-- Amounts that come to totals.
use Rattle.std.proofs.Common.{◌≡◌, ◌≢◌, ℕ, ℤ, zero, suc, ◌+◌, ◌-◌, ◌*◌, ◌/◌, ◌%◌, ◌<◌, ◌≤◌, ◌⊎◌, true, false, cond, List, length, get_or, refl, sym, ap, ◌∙◌, subst, arith, ⊎_elim}
use Rattle.std.specs.Prelude.{pos, ◌+ℤ◌, ◌≤ℤ◌, nat_eq}
use Rattle.std.proofs.Math.ListN.{set}
use Rattle.std.proofs.Math.Nat.{mul-le-mul_right}
use Rattle.std.proofs.lemmas.List.{get_or-set_same, get_or-set_other}
use Rattle.std.proofs.lemmas.Int.{ints}
use Rattle.std.proofs.lemmas.Nat.{same_from_place}
use Rattle.std.proofs.lemmas.Bool.{eq-eqb, ne_eqb, cases_eq}
use Rattle.overview_tiles.specs.inside.Comes.{GrowsCounts, GrowsSums, IsWithin, comes, in_row}

pub comes_none : (to : ℕ → ℕ) (a : ℕ → ℤ) (t : ℕ) → comes to a t 0 ≡ pos 0
unfolding comes
comes_none to a t = refl

-- what one amount brings to a total
abbrev pub brings : (ℕ → ℕ) → (ℕ → ℤ) → ℕ → ℕ → ℤ
brings to a t n = cond (nat_eq (to n) t) (a n) (pos 0)

suc_next : (to : ℕ → ℕ) (a : ℕ → ℤ) (t n : ℕ) → comes to a t (suc n) ≡ comes to a t n +ℤ brings to a t n
unfolding comes
suc_next to a t n = refl

pub comes_next : (to : ℕ → ℕ) (a : ℕ → ℤ) (t n : ℕ) → comes to a t (n + 1) ≡ comes to a t n +ℤ brings to a t n
comes_next to a t n = ap (comes to a t) (let e : n + 1 ≡ suc n = omega arith in e) ∙ suc_next to a t n

pub brings_there : (to : ℕ → ℕ) (a : ℕ → ℤ) (t n : ℕ) → to n ≡ t → brings to a t n ≡ a n
brings_there to a t n e = ap (λ b. cond b (a n) (pos 0)) (eq-eqb (to n) t e)

pub brings_none : (to : ℕ → ℕ) (a : ℕ → ℤ) (t n : ℕ) → to n ≢ t → brings to a t n ≡ pos 0
brings_none to a t n ne = ap (λ b. cond b (a n) (pos 0)) (ne_eqb (to n) t ne)

pub comes_same : (to to' : ℕ → ℕ) (a a' : ℕ → ℤ) (t n : ℕ) → ((i : ℕ) → i < n → to i ≡ to' i) → ((i : ℕ) → i < n → a i ≡ a' i) → comes to a t n ≡ comes to' a' t n
comes_same to to' a a' t zero ht ha = comes_none to a t ∙ sym (comes_none to' a' t)
comes_same to to' a a' t (suc n) ht ha =
    let before : comes to a t n ≡ comes to' a' t n = comes_same to to' a a' t n (λ i less. ht i (omega arith)) (λ i less. ha i (omega arith)) in
    let place : to n ≡ to' n = ht n (omega arith) in
    let amount : a n ≡ a' n = ha n (omega arith) in
    suc_next to a t n
    ∙ ap (λ z. z +ℤ brings to a t n) before
    ∙ ap (λ k. comes to' a' t n +ℤ cond (nat_eq k t) (a n) (pos 0)) place
    ∙ ap (λ z. comes to' a' t n +ℤ cond (nat_eq (to' n) t) z (pos 0)) amount
    ∙ sym (suc_next to' a' t n)

pub comes_join : (to : ℕ → ℕ) (a : ℕ → ℤ) (t n m : ℕ) → comes to a t (n + m) ≡ comes to a t n +ℤ comes (λ i. to (n + i)) (λ i. a (n + i)) t m
comes_join to a t n zero =
    let none : comes (λ i. to (n + i)) (λ i. a (n + i)) t 0 ≡ pos 0 = comes_none (λ i. to (n + i)) (λ i. a (n + i)) t in
    ap (comes to a t) (let e : n + 0 ≡ n = omega arith in e) ∙ (let e : comes to a t n ≡ comes to a t n +ℤ comes (λ i. to (n + i)) (λ i. a (n + i)) t 0 = omega (arith, ints, none) in e)
comes_join to a t n (suc m) =
    let before = comes_join to a t n m in
    let left = suc_next to a t (n + m) in
    let right = suc_next (λ i. to (n + i)) (λ i. a (n + i)) t m in
    ap (comes to a t) (let e : n + suc m ≡ suc (n + m) = omega arith in e) ∙ (let e : comes to a t (suc (n + m)) ≡ comes to a t n +ℤ comes (λ i. to (n + i)) (λ i. a (n + i)) t (suc m) = omega (arith, ints, before, left, right) in e)

comes_two : (to : ℕ → ℕ) (a : ℕ → ℤ) (t n : ℕ) → comes to a t (n + 2) ≡ (comes to a t n +ℤ brings to a t n) +ℤ brings to a t (n + 1)
comes_two to a t n = ap (comes to a t) (let e : n + 2 ≡ n + 1 + 1 = omega arith in e) ∙ comes_next to a t (n + 1) ∙ ap (λ z. z +ℤ brings to a t (n + 1)) (comes_next to a t n)

brings_up : (to : ℕ → ℕ) (a : ℕ → ℤ) (t n : ℕ) → pos 0 ≤ℤ a n → pos 0 ≤ℤ brings to a t n
brings_up to a t n h = elim (nat_eq (to n) t) as (λ b. pos 0 ≤ℤ cond b (a n) (pos 0)) [ true ↦ h | false ↦ omega (arith, ints) ]

pub comes_up : (to : ℕ → ℕ) (a : ℕ → ℤ) (t n m : ℕ) → ((i : ℕ) → pos 0 ≤ℤ a i) → comes to a t n ≤ℤ comes to a t (n + m)
comes_up to a t n zero h = let e : comes to a t (n + 0) ≡ comes to a t n = ap (comes to a t) (omega arith) in omega (arith, ints, e)
comes_up to a t n (suc m) h =
    let before = comes_up to a t n m h in
    let next = suc_next to a t (n + m) in
    let e : comes to a t (n + suc m) ≡ comes to a t (suc (n + m)) = ap (comes to a t) (omega arith) in
    omega (arith, ints, before, next, e, brings_up to a t (n + m) (h (n + m)))

pub comes_above : (to : ℕ → ℕ) (a : ℕ → ℤ) (t n : ℕ) → ((i : ℕ) → pos 0 ≤ℤ a i) → pos 0 ≤ℤ comes to a t n
comes_above to a t n h =
    let none = comes_none to a t in
    let up = comes_up to a t 0 n h in
    let e : comes to a t (0 + n) ≡ comes to a t n = ap (comes to a t) (omega arith) in
    omega (arith, ints, none, up, e)

brings_within : (reach : ℕ) (to : ℕ → ℕ) (a : ℕ → ℤ) (t n : ℕ) → IsWithin reach (a n) → IsWithin reach (brings to a t n)
brings_within reach to a t n h = elim (nat_eq (to n) t) as (λ b. IsWithin reach (cond b (a n) (pos 0))) [ true ↦ h | false ↦ (omega (arith, ints), omega (arith, ints)) ]

pub comes_within : (reach : ℕ) (to : ℕ → ℕ) (a : ℕ → ℤ) (t n : ℕ) → ((i : ℕ) → i < n → IsWithin reach (a i)) → IsWithin (n * reach) (comes to a t n)
comes_within reach to a t zero h = let none = comes_none to a t in (omega (arith, ints, none), omega (arith, ints, none))
comes_within reach to a t (suc n) h =
    let before = comes_within reach to a t n (λ i less. h i (omega arith)) in
    let next = suc_next to a t n in
    let one = brings_within reach to a t n (h n (omega arith)) in
    let e : suc n * reach ≡ n * reach + reach = omega arith in
    subst (λ m. IsWithin m (comes to a t (suc n))) (sym e) (omega (arith, ints, before.0, next, one.0), omega (arith, ints, before.1, next, one.1))

-- amounts that are 0 where a mark is 0: what comes of them is as small as the count of the marks asks for
pub comes_marked : (reach : ℕ) (to : ℕ → ℕ) (a b : ℕ → ℤ) (t n c : ℕ) → ((i : ℕ) → IsWithin reach (a i)) → ((i : ℕ) → ((b i ≡ pos 0) × (a i ≡ pos 0)) ⊎ (b i ≡ pos 1)) → comes to b t n ≤ℤ pos c
    → IsWithin (c * reach) (comes to a t n)
comes_marked reach to a b t zero c small marks few = let none = comes_none to a t in (omega (arith, ints, none), omega (arith, ints, none))
comes_marked reach to a b t (suc n) c small marks few =
    let next_a = suc_next to a t n in
    let next_b = suc_next to b t n in
    ⊎_elim
    (λ (here : to n ≡ t).
    let one_a = brings_there to a t n here in
    let one_b = brings_there to b t n here in
    ⊎_elim
    (λ (off : (b n ≡ pos 0) × (a n ≡ pos 0)).
    let before = comes_marked reach to a b t n c small marks (omega (arith, ints, few, next_b, one_b, off.0)) in
    (omega (arith, ints, before.0, next_a, one_a, off.1), omega (arith, ints, before.1, next_a, one_a, off.1)))
    (λ (on : b n ≡ pos 1).
    let up : pos 0 ≤ℤ comes to b t n = comes_above to b t n (λ i. ⊎_elim (λ (off : (b i ≡ pos 0) × (a i ≡ pos 0)). omega (arith, ints, off.0)) (λ (is : b i ≡ pos 1). omega (arith, ints, is)) (marks i)) in
    let some : 0 < c = omega (arith, ints, few, next_b, one_b, on, up) in
    let less : comes to b t n ≤ℤ pos (c - 1) = omega (arith, ints, few, next_b, one_b, on, some) in
    let before = comes_marked reach to a b t n (c - 1) small marks less in
    let one = small n in
    let e : c ≡ suc (c - 1) = omega (arith, some) in
    let f : suc (c - 1) * reach ≡ (c - 1) * reach + reach = omega arith in
    let all : c * reach ≡ (c - 1) * reach + reach = ap (λ m. m * reach) e ∙ f in
    subst (λ m. IsWithin m (comes to a t (suc n))) (sym all) (omega (arith, ints, before.0, next_a, one_a, one.0), omega (arith, ints, before.1, next_a, one_a, one.1)))
    (marks n))
    (λ (ne : to n ≢ t).
    let one_a = brings_none to a t n ne in
    let one_b = brings_none to b t n ne in
    let before = comes_marked reach to a b t n c small marks (omega (arith, ints, few, next_b, one_b)) in
    (omega (arith, ints, before.0, next_a, one_a), omega (arith, ints, before.1, next_a, one_a)))
    (cases_eq (to n) t)

-- ---- one amount more

pub counts_start : (to : ℕ → ℕ) (a : ℕ → ℤ) (old : List ℕ) → GrowsCounts to a 0 old old
counts_start to a old = record { each = λ t less. let none = comes_none to a t in omega (arith, ints, none) }

pub counts_skip : (to : ℕ → ℕ) (a : ℕ → ℤ) (n : ℕ) (old new : List ℕ) → a n ≡ pos 0 → GrowsCounts to a n old new → GrowsCounts to a (n + 1) old new
counts_skip to a n old new nothing h = record {
  each = λ t less.
      let next = comes_next to a t n in
      let none : brings to a t n ≡ pos 0 = elim (nat_eq (to n) t) as (λ b. cond b (a n) (pos 0) ≡ pos 0) [ true ↦ nothing | false ↦ refl ] in
      let before = h.each t less in
      omega (arith, ints, next, none, before);
}

pub counts_step : (to : ℕ → ℕ) (a : ℕ → ℤ) (n k v : ℕ) (old new : List ℕ) → to n ≡ k → k < length new → length new ≡ length old → a n ≡ pos 1 → v ≡ get_or new k 0 + 1 → GrowsCounts to a n old new
    → GrowsCounts to a (n + 1) old (set new k v)
counts_step to a n k v old new place below size one is h = record {
  each = λ t less.
      let next = comes_next to a t n in
      let before = h.each t less in
      ⊎_elim
      (λ (same : t ≡ k).
      let here : get_or (set new k v) t 0 ≡ v = ap (λ j. get_or (set new k v) j 0) same ∙ get_or-set_same new k v 0 below in
      let there : get_or new t 0 ≡ get_or new k 0 = ap (λ j. get_or new j 0) same in
      let brought = brings_there to a t n (place ∙ sym same) in
      let e : pos (get_or (set new k v) t 0) ≡ pos (get_or old t 0) +ℤ comes to a t (n + 1) = omega (arith, ints, next, before, here, there, brought, one, is) in e)
      (λ (ne : t ≢ k).
      let here : get_or (set new k v) t 0 ≡ get_or new t 0 = get_or-set_other new k t v 0 ne in
      let brought = brings_none to a t n (λ e. ne (sym e ∙ place)) in
      let e : pos (get_or (set new k v) t 0) ≡ pos (get_or old t 0) +ℤ comes to a t (n + 1) = omega (arith, ints, next, before, here, brought) in e)
      (cases_eq t k);
}

-- two neighbouring amounts that come to one count
pub counts_pair : (to : ℕ → ℕ) (a : ℕ → ℤ) (n k v : ℕ) (old new : List ℕ) → to n ≡ k → to (n + 1) ≡ k → k < length new → pos v ≡ (pos (get_or new k 0) +ℤ a n) +ℤ a (n + 1) → GrowsCounts to a n old new
    → GrowsCounts to a (n + 2) old (set new k v)
counts_pair to a n k v old new place beside below is h = record {
  each = λ t less.
      let next = comes_two to a t n in
      let before = h.each t less in
      ⊎_elim
      (λ (same : t ≡ k).
      let here : get_or (set new k v) t 0 ≡ v = ap (λ j. get_or (set new k v) j 0) same ∙ get_or-set_same new k v 0 below in
      let there : get_or new t 0 ≡ get_or new k 0 = ap (λ j. get_or new j 0) same in
      let first = brings_there to a t n (place ∙ sym same) in
      let second = brings_there to a t (n + 1) (beside ∙ sym same) in
      let e : pos (get_or (set new k v) t 0) ≡ pos (get_or old t 0) +ℤ comes to a t (n + 2) = omega (arith, ints, next, before, here, there, first, second, is) in e)
      (λ (ne : t ≢ k).
      let here : get_or (set new k v) t 0 ≡ get_or new t 0 = get_or-set_other new k t v 0 ne in
      let first = brings_none to a t n (λ e. ne (sym e ∙ place)) in
      let second = brings_none to a t (n + 1) (λ e. ne (sym e ∙ beside)) in
      let e : pos (get_or (set new k v) t 0) ≡ pos (get_or old t 0) +ℤ comes to a t (n + 2) = omega (arith, ints, next, before, here, first, second) in e)
      (cases_eq t k);
}

pub sums_start : (depth d : ℕ) (to : ℕ → ℕ) (a : ℕ → ℤ) (old : List ℤ) → GrowsSums depth d to a 0 old old
sums_start depth d to a old = record { each = λ t less. let none = comes_none to a t in omega (arith, ints, none); rest = λ t e below ne. refl }

pub sums_step : (depth d : ℕ) (to : ℕ → ℕ) (a : ℕ → ℤ) (n k : ℕ) (v : ℤ) (old new : List ℤ) → d < depth → to n * depth + d ≡ k → k < length new → length new ≡ length old → v ≡ get_or new k (pos 0) +ℤ a n
    → GrowsSums depth d to a n old new → GrowsSums depth d to a (n + 1) old (set new k v)
sums_step depth d to a n k v old new within place below size is h = record {
  each = λ t less.
      let next = comes_next to a t n in
      let before = h.each t less in
      ⊎_elim
      (λ (same : t ≡ to n).
      let at : t * depth + d ≡ k = ap (λ j. j * depth + d) same ∙ place in
      let here : get_or (set new k v) (t * depth + d) (pos 0) ≡ v = ap (λ j. get_or (set new k v) j (pos 0)) at ∙ get_or-set_same new k v (pos 0) below in
      let there : get_or new (t * depth + d) (pos 0) ≡ get_or new k (pos 0) = ap (λ j. get_or new j (pos 0)) at in
      let brought = brings_there to a t n (sym same) in
      let e : get_or (set new k v) (t * depth + d) (pos 0) ≡ get_or old (t * depth + d) (pos 0) +ℤ comes to a t (n + 1) = omega (arith, ints, next, before, here, there, brought, is) in e)
      (λ (ne : t ≢ to n).
      let apart : t * depth + d ≢ k = λ e. ne (same_from_place t d (to n) d depth within within (e ∙ sym place)).0 in
      let here : get_or (set new k v) (t * depth + d) (pos 0) ≡ get_or new (t * depth + d) (pos 0) = get_or-set_other new k (t * depth + d) v (pos 0) apart in
      let brought = brings_none to a t n (λ e. ne (sym e)) in
      let e : get_or (set new k v) (t * depth + d) (pos 0) ≡ get_or old (t * depth + d) (pos 0) +ℤ comes to a t (n + 1) = omega (arith, ints, next, before, here, brought) in e)
      (cases_eq t (to n));
  rest = λ t e under ne.
      let apart : t * depth + e ≢ k = λ same. ne (same_from_place t e (to n) d depth under within (same ∙ sym place)).1 in
      get_or-set_other new k (t * depth + e) v (pos 0) apart ∙ h.rest t e under ne;
}

-- two neighbouring amounts that come to one sum
pub sums_pair : (depth d : ℕ) (to : ℕ → ℕ) (a : ℕ → ℤ) (n k : ℕ) (v : ℤ) (old new : List ℤ) → d < depth → to n * depth + d ≡ k → to (n + 1) ≡ to n → k < length new → v ≡ (get_or new k (pos 0) +ℤ a n) +ℤ a (n + 1)
    → GrowsSums depth d to a n old new → GrowsSums depth d to a (n + 2) old (set new k v)
sums_pair depth d to a n k v old new within place beside below is h = record {
  each = λ t less.
      let next = comes_two to a t n in
      let before = h.each t less in
      ⊎_elim
      (λ (same : t ≡ to n).
      let at : t * depth + d ≡ k = ap (λ j. j * depth + d) same ∙ place in
      let here : get_or (set new k v) (t * depth + d) (pos 0) ≡ v = ap (λ j. get_or (set new k v) j (pos 0)) at ∙ get_or-set_same new k v (pos 0) below in
      let there : get_or new (t * depth + d) (pos 0) ≡ get_or new k (pos 0) = ap (λ j. get_or new j (pos 0)) at in
      let first = brings_there to a t n (sym same) in
      let second = brings_there to a t (n + 1) (beside ∙ sym same) in
      let e : get_or (set new k v) (t * depth + d) (pos 0) ≡ get_or old (t * depth + d) (pos 0) +ℤ comes to a t (n + 2) = omega (arith, ints, next, before, here, there, first, second, is) in e)
      (λ (ne : t ≢ to n).
      let apart : t * depth + d ≢ k = λ e. ne (same_from_place t d (to n) d depth within within (e ∙ sym place)).0 in
      let here : get_or (set new k v) (t * depth + d) (pos 0) ≡ get_or new (t * depth + d) (pos 0) = get_or-set_other new k (t * depth + d) v (pos 0) apart in
      let first = brings_none to a t n (λ e. ne (sym e)) in
      let second = brings_none to a t (n + 1) (λ e. ne (sym e ∙ beside)) in
      let e : get_or (set new k v) (t * depth + d) (pos 0) ≡ get_or old (t * depth + d) (pos 0) +ℤ comes to a t (n + 2) = omega (arith, ints, next, before, here, first, second) in e)
      (cases_eq t (to n));
  rest = λ t e under ne.
      let apart : t * depth + e ≢ k = λ same. ne (same_from_place t e (to n) d depth under within (same ∙ sym place)).1 in
      get_or-set_other new k (t * depth + e) v (pos 0) apart ∙ h.rest t e under ne;
}

-- ---- room for one amount more

pub counts_room : (to : ℕ → ℕ) (a : ℕ → ℤ) (n m k : ℕ) (old new : List ℕ) → ((i : ℕ) → pos 0 ≤ℤ a i) → to n ≡ k → n < m → a n ≡ pos 1 → k < length old → GrowsCounts to a n old new
    → ((t : ℕ) → t < length old → (pos (get_or old t 0) +ℤ comes to a t m) ≤ℤ pos 255) → get_or new k 0 + 1 ≤ 255
counts_room to a n m k old new up place less one inside grown fit =
    let before = grown.each k inside in
    let next = comes_next to a k n in
    let brought = brings_there to a k n place in
    let rest : n + 1 + (m - (n + 1)) ≡ m = omega arith in
    let all = comes_up to a k (n + 1) (m - (n + 1)) up in
    let whole : comes to a k (n + 1 + (m - (n + 1))) ≡ comes to a k m = ap (comes to a k) rest in
    omega (arith, ints, before, next, brought, one, all, whole, fit k inside)

pub counts_room_pair : (to : ℕ → ℕ) (a : ℕ → ℤ) (n m k : ℕ) (old new : List ℕ) → ((i : ℕ) → pos 0 ≤ℤ a i) → to n ≡ k → to (n + 1) ≡ k → n + 2 ≤ m → k < length old → GrowsCounts to a n old new
    → ((t : ℕ) → t < length old → (pos (get_or old t 0) +ℤ comes to a t m) ≤ℤ pos 255) → ((pos (get_or new k 0) +ℤ a n) +ℤ a (n + 1)) ≤ℤ pos 255
counts_room_pair to a n m k old new up place beside less inside grown fit =
    let before = grown.each k inside in
    let next = comes_two to a k n in
    let first = brings_there to a k n place in
    let second = brings_there to a k (n + 1) beside in
    let rest : n + 2 + (m - (n + 2)) ≡ m = omega (arith, less) in
    let all = comes_up to a k (n + 2) (m - (n + 2)) up in
    let whole : comes to a k (n + 2 + (m - (n + 2))) ≡ comes to a k m = ap (comes to a k) rest in
    omega (arith, ints, before, next, first, second, all, whole, fit k inside)

-- ---- pairs of columns

-- where the two pixels of a pair come to
pub pair_first : (base col k : ℕ) → col % 2 ≡ 0 → in_row base col (2 * k) ≡ base + col / 2 + k
pair_first base col k even = omega (arith, even)

pub pair_second : (base col k : ℕ) → col % 2 ≡ 0 → in_row base col (2 * k + 1) ≡ base + col / 2 + k
pair_second base col k even = omega (arith, even)

pub sums_room : (reach depth d : ℕ) (to : ℕ → ℕ) (a : ℕ → ℤ) (n k : ℕ) (old new : List ℤ) → to n * depth + d ≡ k → n ≤ 256 → k < length old → ((i : ℕ) → i < n → IsWithin reach (a i)) → GrowsSums depth d to a n old new
    → ((t : ℕ) → t * depth + d < length old → IsWithin (1024 * reach) (get_or old (t * depth + d) (pos 0))) → IsWithin (2048 * reach) (get_or new k (pos 0))
sums_room reach depth d to a n k old new place few inside small grown within =
    let t = to n in
    let under : t * depth + d < length old = omega (arith, inside, place) in
    let before = grown.each t under in
    let come = comes_within reach to a t n small in
    let was = within t under in
    let all : n * reach ≤ 256 * reach = mul-le-mul_right reach few in
    subst (λ j. IsWithin (2048 * reach) (get_or new j (pos 0))) place (omega (arith, ints, before, come.0, was.0, all), omega (arith, ints, before, come.1, was.1, all))
