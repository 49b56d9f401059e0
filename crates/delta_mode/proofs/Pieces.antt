-- Pieces of a row of pixels.
use Rattle.std.proofs.Common.{◌≡◌, ℕ, zero, suc, ℤ, ◌+◌, ◌<◌, ◌≤◌, Bool, true, false, cond, refl, ap, ◌∙◌, subst, arith, inl, inr, add-one}
use Rattle.std.proofs.lemmas.Bool.{cases_lt}
use Rattle.delta_mode.specs.inside.Pieces.{rank, predicted_by}

-- ---- one pixel more

pub rank_on : (mark : ℕ → Bool) (i : ℕ) → mark i ≡ true → rank mark (i + 1) ≡ rank mark i + 1
rank_on mark i on = ap (rank mark) (add-one i) ∙ ap (λ b. cond b (rank mark i + 1) (rank mark i)) on

pub rank_off : (mark : ℕ → Bool) (i : ℕ) → mark i ≡ false → rank mark (i + 1) ≡ rank mark i
rank_off mark i off = ap (rank mark) (add-one i) ∙ ap (λ b. cond b (rank mark i + 1) (rank mark i)) off

-- ---- ranks

pub rank_grows : (mark : ℕ → Bool) (i n : ℕ) → i ≤ n → rank mark i ≤ rank mark n
rank_grows mark i zero le = subst (λ j. rank mark j ≤ 0) (let e : 0 ≡ i = omega (arith, le) in e) (omega arith)
rank_grows mark i (suc n) le = elim (cases_lt i (suc n)) [
  | inl lt ↦ let before = rank_grows mark i n (omega arith) in elim (mark n) as (λ b. rank mark i ≤ cond b (rank mark n + 1) (rank mark n)) [
    | true ↦ omega (arith, before)
    | false ↦ before
  ]
  | inr ge ↦ subst (λ j. rank mark j ≤ rank mark (suc n)) (let e : suc n ≡ i = omega (arith, le, ge) in e) (omega arith)
]

-- a valid pixel's symbol is one of those up to n
pub rank_below : (mark : ℕ → Bool) (i n : ℕ) → i < n → mark i ≡ true → rank mark i < rank mark n
rank_below mark i n lt on = let more = rank_on mark i on in let grows = rank_grows mark (i + 1) n (omega (arith, lt)) in omega (arith, more, grows)

pub rank_same : (m n : ℕ → Bool) (k : ℕ) → ((j : ℕ) → j < k → m j ≡ n j) → rank m k ≡ rank n k
rank_same m n zero same = refl
rank_same m n (suc k) same =
    let before = rank_same m n k (λ j lt. same j (omega arith)) in
    λ i. cond (same k (omega arith) i) (before i + 1) (before i)

pub rank_split : (valid : ℕ → Bool) (a i : ℕ) → rank valid (a + i) ≡ rank valid a + rank (λ j. valid (a + j)) i
rank_split valid a zero = let e : a + 0 ≡ a = omega arith in ap (rank valid) e ∙ (let f : rank valid a ≡ rank valid a + 0 = omega arith in f)
rank_split valid a (suc i) =
    let e : a + suc i ≡ suc (a + i) = omega arith in
    let before = rank_split valid a i in
    ap (rank valid) e ∙ elim (valid (a + i)) as (λ b. cond b (rank valid (a + i) + 1) (rank valid (a + i)) ≡ rank valid a + cond b (rank (λ j. valid (a + j)) i + 1) (rank (λ j. valid (a + j)) i)) [
      | true ↦ omega (arith, before)
      | false ↦ before
    ]

-- ---- the value kept

pub predicted_has : (P : ℤ → Type 0) (left up : Bool) (above last : ℤ) → P above → P last → P (predicted_by left up above last)
predicted_has P true up above last pa pl = pl
predicted_has P false true above last pa pl = pa
predicted_has P false false above last pa pl = pl
