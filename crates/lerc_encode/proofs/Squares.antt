-- A grid of numbers by squares of two rows and two columns: the same numbers in another order.
use Rattle.std.proofs.Common.{◌≡◌, ℕ, zero, suc, ◌+◌, ◌-◌, ◌*◌, ◌/◌, ◌%◌, ◌<◌, ◌≤◌, List, [], ◌∷◌, ◌++◌, refl, sym, ap, subst, ◌∙◌, arith, inl, inr}
use Rattle.std.specs.Prelude.{Bool, nat_lt, if◌then◌else◌}
use Rattle.std.specs.List.{flat_map, range_with_len}
use Rattle.std.specs.List.Sorted.{IsPermutation}
use Rattle.std.proofs.lemmas.Bool.Decides.{leb_tells}
use Rattle.std.proofs.lemmas.Nat.{div-mul-add, mod-mul-add}
use Rattle.std.proofs.lemmas.List.Concat.{flat_map-append}
use Rattle.std.proofs.lemmas.List.Sorted.{IsPermutation-append, IsPermutation-append_right, IsPermutation-refl, IsPermutation-sym, IsPermutation-trans}
use Rattle.lerc_encode.proofs.Runs.{two_runs}
use Rattle.lerc_encode.proofs.Quarters.{exchanged}

-- ---- lists of lists in another order

dealt : {X Y : Type 0} (p q : Y → List X) (ys : List Y) → IsPermutation (flat_map (λ y. p y ++ q y) ys) (flat_map p ys ++ flat_map q ys)
dealt p q [] = IsPermutation-refl []
dealt p q (y ∷ ys) = IsPermutation-trans _ _ _ (IsPermutation-append_right (p y ++ q y) (flat_map (λ y. p y ++ q y) ys) (flat_map p ys ++ flat_map q ys) (dealt p q ys)) (exchanged (p y) (q y) (flat_map p ys) (flat_map q ys))

none_of : {X Z : Type 0} (zs : List Z) → flat_map {X = Z} {A = X} (λ z. []) zs ≡ []
none_of [] = refl
none_of {X = X} (z ∷ zs) = none_of {X = X} zs

pub swapped : {X Y Z : Type 0} (f : Y → Z → List X) (ys : List Y) (zs : List Z) → IsPermutation (flat_map (λ y. flat_map (f y) zs) ys) (flat_map (λ z. flat_map (λ y. f y z) ys) zs)
swapped {X = X} f [] zs = subst (IsPermutation []) (sym (none_of {X = X} zs)) (IsPermutation-refl [])
swapped f (y ∷ ys) zs =
    IsPermutation-trans _ _ _ (IsPermutation-append_right (flat_map (f y) zs) (flat_map (λ y. flat_map (f y) zs) ys) (flat_map (λ z. flat_map (λ y. f y z) ys) zs) (swapped f ys zs))
    (IsPermutation-sym (flat_map (λ z. f y z ++ flat_map (λ y. f y z) ys) zs) (flat_map (f y) zs ++ flat_map (λ z. flat_map (λ y. f y z) ys) zs) (dealt (f y) (λ z. flat_map (λ y. f y z) ys) zs))

pub each_moved : {X Y : Type 0} (f g : Y → List X) (ys : List Y) → ((y : Y) → IsPermutation (f y) (g y)) → IsPermutation (flat_map f ys) (flat_map g ys)
each_moved f g [] h = IsPermutation-refl []
each_moved f g (y ∷ ys) h = IsPermutation-append (f y) (g y) (flat_map f ys) (flat_map g ys) (h y) (each_moved f g ys h)

same_each : {X Y : Type 0} (f g : Y → List X) (ys : List Y) → ((y : Y) → f y ≡ g y) → flat_map f ys ≡ flat_map g ys
same_each f g [] h = refl
same_each f g (y ∷ ys) h = λ i. h y i ++ same_each f g ys h i

flat_nested : {X Y Z : Type 0} (f : Y → List X) (g : Z → List Y) (zs : List Z) → flat_map f (flat_map g zs) ≡ flat_map (λ z. flat_map f (g z)) zs
flat_nested f g [] = refl
flat_nested f g (z ∷ zs) = flat_map-append f (g z) (flat_map g zs) ∙ ap (λ l. flat_map f (g z) ++ l) (flat_nested f g zs)

-- ---- runs of numbers

same_run : {X : Type 0} (f g : ℕ → List X) (a n : ℕ) → ((k : ℕ) → k < a + n → f k ≡ g k) → flat_map f (range_with_len a n) ≡ flat_map g (range_with_len a n)
same_run f g a zero h = refl
same_run f g a (suc n) h = λ i. h a (omega arith) i ++ same_run f g (a + 1) n (λ k low. h k (omega (arith, low))) i

same_below : {X : Type 0} (f g : ℕ → List X) (n : ℕ) → ((k : ℕ) → k < n → f k ≡ g k) → flat_map f (range_with_len 0 n) ≡ flat_map g (range_with_len 0 n)
same_below f g n h = same_run f g 0 n (λ k low. h k (omega (arith, low)))

shifted : {X : Type 0} (f : ℕ → List X) (b a n : ℕ) → flat_map f (range_with_len (b + a) n) ≡ flat_map (λ j. f (b + j)) (range_with_len a n)
shifted f b a zero = refl
shifted f b a (suc n) = ap (λ (k : ℕ). f (b + a) ++ flat_map f (range_with_len k n)) (let e : (b + a) + 1 ≡ b + (a + 1) = omega arith in e) ∙ ap (λ l. f (b + a) ++ l) (shifted f b (a + 1) n)

rows_from : {X : Type 0} (f : ℕ → List X) (m a n : ℕ) → flat_map f (range_with_len (a * m) (n * m)) ≡ flat_map (λ i. flat_map (λ j. f (i * m + j)) (range_with_len 0 m)) (range_with_len a n)
rows_from f m a zero = ap (λ (k : ℕ). flat_map f (range_with_len (a * m) k)) (let e : 0 * m ≡ 0 = omega arith in e)
rows_from f m a (suc n) =
    ap (λ (k : ℕ). flat_map f (range_with_len (a * m) k)) (let e : suc n * m ≡ m + n * m = omega arith in e)
    ∙ ap (flat_map f) (two_runs (a * m) m (n * m)) ∙ flat_map-append f (range_with_len (a * m) m) (range_with_len (a * m + m) (n * m))
    ∙ ap (λ l. l ++ flat_map f (range_with_len (a * m + m) (n * m))) (ap (λ (k : ℕ). flat_map f (range_with_len k m)) (let e : a * m ≡ a * m + 0 = omega arith in e) ∙ shifted f (a * m) 0 m)
    ∙ ap (λ l. flat_map (λ j. f (a * m + j)) (range_with_len 0 m) ++ l) (ap (λ (k : ℕ). flat_map f (range_with_len k (n * m))) (let e : a * m + m ≡ (a + 1) * m = omega arith in e) ∙ rows_from f m (a + 1) n)

-- a run of rows of m numbers
pub rows_of : {X : Type 0} (f : ℕ → List X) (n m : ℕ) → flat_map f (range_with_len 0 (n * m)) ≡ flat_map (λ i. flat_map (λ j. f (i * m + j)) (range_with_len 0 m)) (range_with_len 0 n)
rows_of f n m = ap (λ (k : ℕ). flat_map f (range_with_len k (n * m))) (let e : 0 ≡ 0 * m = omega arith in e) ∙ rows_from f m 0 n

-- of two neighbours, those that are below n
abbrev pub pair : ℕ → ℕ → List ℕ
pair n k = k * 2 ∷ (if nat_lt (k * 2 + 1) n then (k * 2 + 1) ∷ [] else [])

pairs_more : (n a k : ℕ) → n ≤ (a + suc k) * 2 → (a + suc k) * 2 ≤ n + 1 → range_with_len ((a + 1) * 2) (n - (a + 1) * 2) ≡ flat_map (pair n) (range_with_len (a + 1) k)
    → range_with_len (a * 2) (n - a * 2) ≡ flat_map (pair n) (range_with_len a (suc k))
pairs_more n a k high low later = elim (leb_tells (suc (a * 2 + 1)) n) [
  | inl more ↦
      ap (range_with_len (a * 2)) (let m = more.1 in let e : n - a * 2 ≡ suc (suc (n - (a + 1) * 2)) = omega (arith, m) in e)
      ∙ ap (λ l. a * 2 ∷ (a * 2 + 1) ∷ l) (ap (λ (b : ℕ). range_with_len b (n - (a + 1) * 2)) (let e : (a * 2 + 1) + 1 ≡ (a + 1) * 2 = omega arith in e) ∙ later)
      ∙ ap (λ (b : Bool). (a * 2 ∷ (if b then (a * 2 + 1) ∷ [] else [])) ++ flat_map (pair n) (range_with_len (a + 1) k)) (sym (more.0))
  | inr less ↦
      ap (range_with_len (a * 2)) (let m = less.1 in let e : n - a * 2 ≡ suc (n - (a + 1) * 2) = omega (arith, m, low) in e)
      ∙ ap (λ l. a * 2 ∷ l) (ap (range_with_len (a * 2 + 1)) (let m = less.1 in let e : n - (a + 1) * 2 ≡ 0 = omega (arith, m) in e) ∙ ap (range_with_len ((a + 1) * 2)) (let m = less.1 in let e : 0 ≡ n - (a + 1) * 2 = omega (arith, m) in e) ∙ later)
      ∙ ap (λ (b : Bool). (a * 2 ∷ (if b then (a * 2 + 1) ∷ [] else [])) ++ flat_map (pair n) (range_with_len (a + 1) k)) (sym (less.0))
]

pairs_from : (n a k : ℕ) → n ≤ (a + k) * 2 → (a + k) * 2 ≤ n + 1 → range_with_len (a * 2) (n - a * 2) ≡ flat_map (pair n) (range_with_len a k)
pairs_from n a zero high low = ap (range_with_len (a * 2)) (let e : n - a * 2 ≡ 0 = omega (arith, high) in e)
pairs_from n a (suc k) high low = pairs_more n a k high low (pairs_from n (a + 1) k (omega (arith, high)) (omega (arith, low)))

by_twos : (n : ℕ) → range_with_len 0 n ≡ flat_map (pair n) (range_with_len 0 ((n + 1) / 2))
by_twos n = ap (range_with_len 0) (let e : n ≡ n - 0 * 2 = omega arith in e) ∙ pairs_from n 0 ((n + 1) / 2) (omega arith) (omega arith)

twos_of : {X : Type 0} (f : ℕ → List X) (n : ℕ) → flat_map f (range_with_len 0 n) ≡ flat_map (λ a. flat_map f (pair n a)) (range_with_len 0 ((n + 1) / 2))
twos_of f n = ap (flat_map f) (by_twos n) ∙ flat_nested f (pair n) (range_with_len 0 ((n + 1) / 2))

-- ---- a grid by squares of two

module _ {X : Type 0} (f : ℕ → List X) (down across depth : ℕ) where
  abbrev at : ℕ → ℕ → ℕ → List X
  at a b d = f ((a * across + b) * depth + d)

  -- those of the square: the numbers at a depth
  abbrev pub square : ℕ → ℕ → ℕ → List X
  square m n d = flat_map (λ a. flat_map (λ b. at a b d) (pair across n)) (pair down m)

  deep : ℕ → ℕ → List X
  deep a b = flat_map (at a b) (range_with_len 0 depth)

  grid : flat_map f (range_with_len 0 (down * across * depth)) ≡ flat_map (λ a. flat_map (λ b. flat_map (at a b) (range_with_len 0 depth)) (range_with_len 0 across)) (range_with_len 0 down)
  grid =
      rows_of f (down * across) depth
      ∙ rows_of (λ k. flat_map (λ d. f (k * depth + d)) (range_with_len 0 depth)) down across

  pub squares : IsPermutation (flat_map f (range_with_len 0 (down * across * depth))) (flat_map (λ m. flat_map (λ n. flat_map (square m n) (range_with_len 0 depth)) (range_with_len 0 ((across + 1) / 2))) (range_with_len 0 ((down + 1) / 2)))
  squares =
      subst (λ (l : List X). IsPermutation l (flat_map (λ m. flat_map (λ n. flat_map (square m n) (range_with_len 0 depth)) (range_with_len 0 ((across + 1) / 2))) (range_with_len 0 ((down + 1) / 2)))) (sym (grid ∙ twos_of row down))
      (each_moved (λ m. flat_map row (pair down m)) (λ m. flat_map (λ n. flat_map (square m n) (range_with_len 0 depth)) (range_with_len 0 ((across + 1) / 2))) (range_with_len 0 ((down + 1) / 2)) two_rows)
    where
      row : ℕ → List X
      row a = flat_map (λ b. flat_map (at a b) (range_with_len 0 depth)) (range_with_len 0 across)

      one : ℕ → ℕ → ℕ → List X
      one m n a = flat_map (λ b. flat_map (at a b) (range_with_len 0 depth)) (pair across n)

      one_square : (m n : ℕ) → IsPermutation (flat_map (one m n) (pair down m)) (flat_map (square m n) (range_with_len 0 depth))
      one_square m n =
          IsPermutation-trans _ _ _
          (each_moved (one m n) (λ a. flat_map (λ d. flat_map (λ b. at a b d) (pair across n)) (range_with_len 0 depth)) (pair down m) (λ a. swapped (at a) (pair across n) (range_with_len 0 depth)))
          (swapped (λ a d. flat_map (λ b. at a b d) (pair across n)) (pair down m) (range_with_len 0 depth))

      two_rows : (m : ℕ) → IsPermutation (flat_map row (pair down m)) (flat_map (λ n. flat_map (square m n) (range_with_len 0 depth)) (range_with_len 0 ((across + 1) / 2)))
      two_rows m =
          subst (λ (l : List X). IsPermutation l (flat_map (λ n. flat_map (square m n) (range_with_len 0 depth)) (range_with_len 0 ((across + 1) / 2))))
          (sym (same_each row (λ a. flat_map (λ n. one m n a) (range_with_len 0 ((across + 1) / 2))) (pair down m) (λ a. twos_of (λ b. flat_map (at a b) (range_with_len 0 depth)) across)))
          (IsPermutation-trans _ _ _
          (swapped (λ a n. one m n a) (pair down m) (range_with_len 0 ((across + 1) / 2)))
          (each_moved (λ n. flat_map (one m n) (pair down m)) (λ n. flat_map (square m n) (range_with_len 0 depth)) (range_with_len 0 ((across + 1) / 2)) (one_square m)))

  -- by their numbers
  pub squares_numbered : 0 < depth → 0 < (across + 1) / 2
      → IsPermutation (flat_map f (range_with_len 0 (down * across * depth)))
      (flat_map (λ k. square (k / depth / ((across + 1) / 2)) (k / depth % ((across + 1) / 2)) (k % depth)) (range_with_len 0 ((down + 1) / 2 * ((across + 1) / 2) * depth)))
  squares_numbered some wide =
      subst (IsPermutation (flat_map f (range_with_len 0 (down * across * depth)))) (sym whole) squares
    where
      half : ℕ
      half = (across + 1) / 2

      g : ℕ → List X
      g k = square (k / depth / half) (k / depth % half) (k % depth)

      there : (m n d : ℕ) → n < half → d < depth → g ((m * half + n) * depth + d) ≡ square m n d
      there m n d low_n low_d =
          let block : ((m * half + n) * depth + d) / depth ≡ m * half + n = div-mul-add (m * half + n) depth d low_d in
          ap (λ (k : ℕ). square (k / half) (k % half) (((m * half + n) * depth + d) % depth)) block
          ∙ ap (λ (k : ℕ). square k ((m * half + n) % half) (((m * half + n) * depth + d) % depth)) (div-mul-add m half n low_n)
          ∙ ap (λ (k : ℕ). square m k (((m * half + n) * depth + d) % depth)) (mod-mul-add m half n low_n)
          ∙ ap (square m n) (mod-mul-add (m * half + n) depth d low_d)

      whole : flat_map g (range_with_len 0 ((down + 1) / 2 * half * depth)) ≡ flat_map (λ m. flat_map (λ n. flat_map (square m n) (range_with_len 0 depth)) (range_with_len 0 half)) (range_with_len 0 ((down + 1) / 2))
      whole =
          rows_of g ((down + 1) / 2 * half) depth
          ∙ rows_of (λ k. flat_map (λ d. g (k * depth + d)) (range_with_len 0 depth)) ((down + 1) / 2) half
          ∙ same_below _ _ ((down + 1) / 2) (λ m _. same_below _ _ half (λ n low_n. same_below _ _ depth (λ d low_d. there m n d low_n low_d)))
