-- Kraft's sum of the lengths of a tree.
use Rattle.std.proofs.Common.{◌≡◌, ℕ, zero, suc, ◌+◌, ◌-◌, ◌*◌, ◌^◌, ◌<◌, ◌≤◌, ◌||◌, nat_eq, true, false, cond, refl, sym, ap, ◌∙◌, inl, inr, arith}
use Rattle.std.proofs.lemmas.Bool.{cases_Bool, eqb-true, eqb-false, eq-eqb, ne_eqb, or_from, or_left, or_right}
use Rattle.std.proofs.Math.Nat.{pow-suc}
use Rattle.huff_codes.specs.Sums.{sum_below}
use Rattle.huff_codes.specs.inside.Forests.{IsApart, IsWhole}
use Rattle.huff_codes.specs.Tree.{Tree, leaf, join, has_leaf, joins_of, share}

pub sum-zero : (f : ℕ → ℕ) → sum_below 0 f ≡ 0
unfolding sum_below
sum-zero f = refl

pub sum-suc : (n : ℕ) (f : ℕ → ℕ) → sum_below (suc n) f ≡ sum_below n f + f n
unfolding sum_below
sum-suc n f = refl

pub sum-more : (n : ℕ) (f : ℕ → ℕ) → sum_below (n + 1) f ≡ sum_below n f + f n
sum-more n f = let e : n + 1 ≡ suc n = omega arith in rw e (sum-suc n f)

-- sums of equal terms
pub sum-same : (n : ℕ) (f g : ℕ → ℕ) → ((k : ℕ) → k < n → f k ≡ g k) → sum_below n f ≡ sum_below n g
sum-same zero f g h = sum-zero f ∙ sym (sum-zero g)
sum-same (suc n) f g h = omega (arith, sum-suc n f, sum-suc n g, sum-same n f g (λ k lt. h k (omega arith)), h n (omega arith))

pub sum-le : (n : ℕ) (f g : ℕ → ℕ) → ((k : ℕ) → k < n → f k ≤ g k) → sum_below n f ≤ sum_below n g
sum-le zero f g h = omega (arith, sum-zero f, sum-zero g)
sum-le (suc n) f g h = omega (arith, sum-suc n f, sum-suc n g, sum-le n f g (λ k lt. h k (omega arith)), h n (omega arith))

pub sum-add : (n : ℕ) (f g : ℕ → ℕ) → sum_below n (λ k. f k + g k) ≡ sum_below n f + sum_below n g
sum-add zero f g = omega (arith, sum-zero f, sum-zero g, sum-zero (λ k. f k + g k))
sum-add (suc n) f g = omega (arith, sum-suc n f, sum-suc n g, sum-suc n (λ k. f k + g k), sum-add n f g)

pub sum-twice : (n : ℕ) (f : ℕ → ℕ) → sum_below n (λ k. 2 * f k) ≡ 2 * sum_below n f
sum-twice zero f = omega (arith, sum-zero f, sum-zero (λ k. 2 * f k))
sum-twice (suc n) f = omega (arith, sum-suc n f, sum-suc n (λ k. 2 * f k), sum-twice n f)

pub sum-none : (n : ℕ) (f : ℕ → ℕ) → ((k : ℕ) → k < n → f k ≡ 0) → sum_below n f ≡ 0
sum-none zero f h = sum-zero f
sum-none (suc n) f h = omega (arith, sum-suc n f, sum-none n f (λ k lt. h k (omega arith)), h n (omega arith))

-- only one term is not 0
pub sum-one : (n i : ℕ) (f : ℕ → ℕ) → i < n → ((k : ℕ) → k < n → (k ≡ i → ⊥) → f k ≡ 0) → sum_below n f ≡ f i
sum-one zero i f lt h = absurd (omega arith)
sum-one (suc n) i f lt h = elim (cases_Bool (nat_eq n i)) [
  | inl same ↦
      let e : n ≡ i = eqb-true n i same in
      omega (arith, sum-suc n f, ap f e, sum-none n f (λ k below. h k (omega arith) (λ w. omega arith)))
  | inr other ↦
      let ne : n ≡ i → ⊥ = eqb-false n i other in
      omega (arith, sum-suc n f, h n (omega arith) ne, sum-one n i f (omega arith) (λ k below w. h k (omega arith) w))
]

-- what a symbol of the tree takes of 2 ^ k
pub part_of : ℕ → Tree → ℕ → ℕ
part_of k t s = cond (has_leaf t s) (2 ^ (k - joins_of t s)) 0

-- no symbol went through more than k joins
abbrev pub IsLow : ℕ → Tree → Type 0
IsLow k t = (s : ℕ) → joins_of t s ≤ k

pub has_leaf-leaf : (t s : ℕ) → has_leaf (leaf t) s ≡ nat_eq t s
unfolding has_leaf
has_leaf-leaf t s = refl

pub has_leaf-join : (a b : Tree) (s : ℕ) → has_leaf (join a b) s ≡ (has_leaf a s || has_leaf b s)
unfolding has_leaf
has_leaf-join a b s = refl

pub joins-leaf : (t s : ℕ) → joins_of (leaf t) s ≡ 0
unfolding joins_of
joins-leaf t s = refl

pub joins-join : (a b : Tree) (s : ℕ) → joins_of (join a b) s ≡ cond (has_leaf a s || has_leaf b s) (joins_of a s + joins_of b s + 1) 0
unfolding joins_of
joins-join a b s = refl

-- a symbol that is not in the tree went through none of its joins
pub joins_none : (t : Tree) (s : ℕ) → has_leaf t s ≡ false → joins_of t s ≡ 0
joins_none (leaf t) s h = joins-leaf t s
joins_none (join a b) s h = rw (joins-join a b s, (sym (has_leaf-join a b s) ∙ h)) refl

twice_pow : (k j : ℕ) → j + 1 ≤ k → 2 * 2 ^ (k - (j + 1)) ≡ 2 ^ (k - j)
twice_pow k j h =
    let e : k - j ≡ suc (k - (j + 1)) = omega arith in
    rw e (omega (arith, pow-suc 2 (k - (j + 1))))

part-in : (k : ℕ) (t : Tree) (s : ℕ) → has_leaf t s ≡ true → part_of k t s ≡ 2 ^ (k - joins_of t s)
unfolding part_of
part-in k t s h = rw h refl

part-out : (k : ℕ) (t : Tree) (s : ℕ) → has_leaf t s ≡ false → part_of k t s ≡ 0
unfolding part_of
part-out k t s h = rw h refl

-- a symbol of a join: of one of its trees, and one join further
pub join_left : (a b : Tree) (s : ℕ) → has_leaf a s ≡ true → has_leaf b s ≡ false → (has_leaf (join a b) s ≡ true) × (joins_of (join a b) s ≡ joins_of a s + 1)
join_left a b s p q =
    let h : (has_leaf a s || has_leaf b s) ≡ true = or_left (has_leaf a s) (has_leaf b s) p in
    (has_leaf-join a b s ∙ h, joins-join a b s ∙ rw h (omega (arith, joins_none b s q)))

pub join_right : (a b : Tree) (s : ℕ) → has_leaf a s ≡ false → has_leaf b s ≡ true → (has_leaf (join a b) s ≡ true) × (joins_of (join a b) s ≡ joins_of b s + 1)
join_right a b s p q =
    let h : (has_leaf a s || has_leaf b s) ≡ true = or_right (has_leaf a s) (has_leaf b s) q in
    (has_leaf-join a b s ∙ h, joins-join a b s ∙ rw h (omega (arith, joins_none a s p)))

pub join_none : (a b : Tree) (s : ℕ) → has_leaf a s ≡ false → has_leaf b s ≡ false → has_leaf (join a b) s ≡ false
join_none a b s p q = has_leaf-join a b s ∙ or_from (has_leaf a s) (has_leaf b s) p q

-- twice what a symbol takes in a join is what it takes in the joined trees
halves : (k : ℕ) (a b : Tree) → IsApart a b → IsLow k (join a b) → (s : ℕ) → 2 * part_of k (join a b) s ≡ part_of k a s + part_of k b s
halves k a b apart low s = elim (cases_Bool (has_leaf a s)) [
  | inl in_a ↦ elim (cases_Bool (has_leaf b s)) [
    | inl in_b ↦ absurd (apart s in_a in_b)
    | inr out_b ↦
        let j = join_left a b s in_a out_b in
        let depth : joins_of a s + 1 ≤ k = omega (arith, low s, j.1) in
        omega (arith, part-in k (join a b) s j.0, part-in k a s in_a, part-out k b s out_b, ap (λ (m : ℕ). 2 ^ (k - m)) j.1, twice_pow k (joins_of a s) depth)
  ]
  | inr out_a ↦ elim (cases_Bool (has_leaf b s)) [
    | inl in_b ↦
        let j = join_right a b s out_a in_b in
        let depth : joins_of b s + 1 ≤ k = omega (arith, low s, j.1) in
        omega (arith, part-in k (join a b) s j.0, part-in k b s in_b, part-out k a s out_a, ap (λ (m : ℕ). 2 ^ (k - m)) j.1, twice_pow k (joins_of b s) depth)
    | inr out_b ↦ omega (arith, part-out k (join a b) s (join_none a b s out_a out_b), part-out k a s out_a, part-out k b s out_b)
  ]
]

low_left : (k : ℕ) (a b : Tree) → IsApart a b → IsLow k (join a b) → IsLow k a
low_left k a b apart low s = elim (cases_Bool (has_leaf a s)) [
  | inl in_a ↦ elim (cases_Bool (has_leaf b s)) [
    | inl in_b ↦ absurd (apart s in_a in_b)
    | inr out_b ↦ omega (arith, low s, (join_left a b s in_a out_b).1)
  ]
  | inr out_a ↦ omega (arith, joins_none a s out_a)
]

low_right : (k : ℕ) (a b : Tree) → IsApart a b → IsLow k (join a b) → IsLow k b
low_right k a b apart low s = elim (cases_Bool (has_leaf b s)) [
  | inl in_b ↦ elim (cases_Bool (has_leaf a s)) [
    | inl in_a ↦ absurd (apart s in_a in_b)
    | inr out_a ↦ omega (arith, low s, (join_right a b s out_a in_b).1)
  ]
  | inr out_b ↦ omega (arith, joins_none b s out_b)
]

-- Kraft's sum of a tree is 2 ^ k, whatever k is that no symbol passes
pub kraft : (n k : ℕ) (t : Tree) → IsWhole n t → IsLow k t → sum_below n (part_of k t) ≡ 2 ^ k
kraft n k (leaf t) whole low =
    let here : has_leaf (leaf t) t ≡ true = has_leaf-leaf t t ∙ eq-eqb t t refl in
    sum-one n t (part_of k (leaf t)) whole (λ s lt ne. part-out k (leaf t) s (has_leaf-leaf t s ∙ ne_eqb t s (λ e. ne (sym e))))
    ∙ part-in k (leaf t) t here ∙ ap (λ (m : ℕ). 2 ^ m) (let e : k - joins_of (leaf t) t ≡ k = omega (arith, joins-leaf t t) in e)
kraft n k (join a b) (whole_a, (whole_b, apart)) low =
    let left : sum_below n (part_of k a) ≡ 2 ^ k = kraft n k a whole_a (low_left k a b apart low) in
    let right : sum_below n (part_of k b) ≡ 2 ^ k = kraft n k b whole_b (low_right k a b apart low) in
    let both : sum_below n (λ s. 2 * part_of k (join a b) s) ≡ sum_below n (λ s. part_of k a s + part_of k b s) =
    sum-same n (λ s. 2 * part_of k (join a b) s) (λ s. part_of k a s + part_of k b s) (λ s lt. halves k a b apart low s) in
    omega (arith, left, right, both, sum-twice n (part_of k (join a b)), sum-add n (part_of k a) (part_of k b))

pub share-zero : share 0 ≡ 0
unfolding share
share-zero = refl

pub share-pos : (l : ℕ) → 0 < l → share l ≡ 2 ^ (32 - l)
unfolding share
share-pos l h = let ne : nat_eq l 0 ≡ false = ne_eqb l 0 (λ e. omega arith) in rw ne refl

-- in a join, a symbol's length is above 0 exactly where the symbol is in it
pub share_of_join : (a b : Tree) (s : ℕ) → IsApart a b → share (joins_of (join a b) s) ≡ part_of 32 (join a b) s
share_of_join a b s apart = elim (cases_Bool (has_leaf (join a b) s)) [
  | inl in_t ↦
      let h : (has_leaf a s || has_leaf b s) ≡ true = sym (has_leaf-join a b s) ∙ in_t in
      let some : 0 < joins_of (join a b) s = rw (joins-join a b s, h) (omega arith) in
      share-pos (joins_of (join a b) s) some ∙ sym (part-in 32 (join a b) s in_t)
  | inr out_t ↦ ap share (joins_none (join a b) s out_t) ∙ share-zero ∙ sym (part-out 32 (join a b) s out_t)
]

-- the lengths of a join of trees have Kraft's sum
pub kraft_of_join : (n : ℕ) (a b : Tree) → IsWhole n (join a b) → IsLow 32 (join a b) → sum_below n (λ s. share (joins_of (join a b) s)) ≡ 2 ^ 32
kraft_of_join n a b whole low =
    sum-same n (λ s. share (joins_of (join a b) s)) (part_of 32 (join a b)) (λ s lt. share_of_join a b s whole.1.1) ∙ kraft n 32 (join a b) whole low
