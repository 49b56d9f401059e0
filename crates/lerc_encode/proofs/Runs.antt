-- Numbered parts one more at a time.
use Rattle.std.proofs.Common.{◌≡◌, ℕ, ◌+◌, ◌-◌, ◌<◌, ◌≤◌, zero, suc, List, ◌∷◌, ◌++◌, length, ap, ◌∙◌, subst, arith, length-append}
use Rattle.std.specs.List.{flat_map, range_with_len}
use Rattle.std.proofs.lemmas.List.{append-nil}
use Rattle.std.proofs.lemmas.List.Concat.{flat_map-append}

-- a run of numbers in two parts
pub two_runs : (a n m : ℕ) → range_with_len a (n + m) ≡ range_with_len a n ++ range_with_len (a + n) m
two_runs a zero m = ap (range_with_len a) (let e : 0 + m ≡ m = omega arith in e) ∙ ap (λ k. range_with_len k m) (let e : a ≡ a + 0 = omega arith in e)
two_runs a (suc n) m =
    ap (range_with_len a) (let e : suc n + m ≡ suc (n + m) = omega arith in e)
    ∙ ap (λ xs. a ∷ xs) (two_runs (a + 1) n m ∙ ap (λ k. range_with_len (a + 1) n ++ range_with_len k m) (let e : (a + 1) + n ≡ a + suc n = omega arith in e))

-- the parts of two runs of numbers
pub parts_more : {X : Type 0} (f : ℕ → List X) (a n m : ℕ) → flat_map f (range_with_len a (n + m)) ≡ flat_map f (range_with_len a n) ++ flat_map f (range_with_len (a + n) m)
parts_more f a n m = ap (flat_map f) (two_runs a n m) ∙ flat_map-append f (range_with_len a n) (range_with_len (a + n) m)

-- the parts of one number more
pub one_more : {X : Type 0} (f : ℕ → List X) (a n j : ℕ) → a + n ≡ j → flat_map f (range_with_len a (n + 1)) ≡ flat_map f (range_with_len a n) ++ f j
one_more f a n j e = parts_more f a n 1 ∙ ap (λ xs. flat_map f (range_with_len a n) ++ xs) (append-nil (f (a + n)) ∙ ap f e)

-- a part is no longer than what is left of all
pub part_fits : {X : Type 0} (f : ℕ → List X) (k n : ℕ) → k < n → length (flat_map f (range_with_len 0 k)) + length (f k) ≤ length (flat_map f (range_with_len 0 n))
part_fits f k n low =
    let m = n - (k + 1) in
    let is : (k + 1) + m ≡ n = omega arith in
    let whole = ap length (parts_more f 0 (k + 1) m) ∙ length-append (flat_map f (range_with_len 0 (k + 1))) (flat_map f (range_with_len (0 + (k + 1)) m)) in
    let first = ap length (one_more f 0 k k (omega arith)) ∙ length-append (flat_map f (range_with_len 0 k)) (f k) in
    subst (λ j. length (flat_map f (range_with_len 0 k)) + length (f k) ≤ length (flat_map f (range_with_len 0 j))) is (omega (arith, whole, first))
