-- Pieces of a row of which each pixel is valid, or none is.
use Rattle.std.proofs.Common.{◌≡◌, ℕ, zero, suc, ℤ, ◌-ℤ◌, ◌+◌, ◌-◌, ◌%◌, ◌<◌, ◌≤◌, Bool, true, false, cond, ◌&&◌, nat_lt, List, get_or, refl, sym, ap, ◌∙◌, arith, subst, inl, inr}
use Rattle.std.proofs.lemmas.Bool.{cases_lt, lt-ltb}
use mir.Syntax.{w64}
use mir.Val.{to_z, of_z}
use Rattle.raster_cells.specs.declared.kind.PixelType.{PixelType}
use Rattle.raster_cells.specs.PixelType.{InRange}
use Rattle.delta_mode.specs.Symbols.{IsByteType, symbol_of}
use Rattle.delta_mode.specs.Deltas.{has_left, has_upper, last_value, predictor, delta}
use Rattle.delta_mode.specs.inside.Pieces.{rank, predicted_by, IsAt, AreCoded}
use Rattle.delta_mode.proofs.Predictors.{last-suc, predictor-is, left_before}
use Rattle.delta_mode.proofs.Pieces.{rank_on, rank_off}
use Rattle.delta_mode.proofs.Kernels.{same}
use Rattle.delta_mode.proofs.InPieces.{column}

-- ---- one pixel

-- the predictor by what is kept, where that is known of what stands above
pub kept_predictor : (cols k : ℕ) (valid : ℕ → Bool) (value : ℕ → ℤ) (left up : Bool) (above last : ℤ) → 0 < cols → left ≡ has_left cols valid k → last ≡ last_value valid value k
    → (left ≡ false → up ≡ has_upper cols valid k) → (left ≡ false → up ≡ true → above ≡ value (k - cols)) → predicted_by left up above last ≡ predictor cols valid value k
kept_predictor cols k valid value left up above last some is_left is_last is_up is_above =
    by left up refl refl ∙ sym (predictor-is cols valid value k)
  where
    by : (a b : Bool) → left ≡ a → up ≡ b → predicted_by left up above last ≡ cond (has_left cols valid k) (value (k - 1)) (cond (has_upper cols valid k) (value (k - cols)) (last_value valid value k))
    by true b l u =
        let h : has_left cols valid k ≡ true = sym is_left ∙ l in
        let at = left_before cols valid k h in
        let e : k ≡ suc (k - 1) = omega (arith, at.0) in
        ap (λ x. predicted_by x up above last) l ∙ is_last ∙ ap (last_value valid value) e ∙ last-suc valid value (k - 1)
        ∙ ap (λ x. cond x (value (k - 1)) (last_value valid value (k - 1))) at.1
        ∙ sym (ap (λ x. cond x (value (k - 1)) (cond (has_upper cols valid k) (value (k - cols)) (last_value valid value k))) h)
    by false true l u =
        let h : has_left cols valid k ≡ false = sym is_left ∙ l in
        let w : has_upper cols valid k ≡ true = sym (is_up l) ∙ u in
        (λ i. predicted_by (l i) (u i) above last) ∙ is_above l u
        ∙ sym (λ i. cond (h i) (value (k - 1)) (cond (w i) (value (k - cols)) (last_value valid value k)))
    by false false l u =
        let h : has_left cols valid k ≡ false = sym is_left ∙ l in
        let w : has_upper cols valid k ≡ false = sym (is_up l) ∙ u in
        (λ i. predicted_by (l i) (u i) above last) ∙ is_last
        ∙ sym (λ i. cond (h i) (value (k - 1)) (cond (w i) (value (k - cols)) (last_value valid value k)))

-- ---- no pixel

pub rank_skips : (valid : ℕ → Bool) (a n : ℕ) → ((i : ℕ) → i < n → valid (a + i) ≡ false) → rank valid (a + n) ≡ rank valid a
rank_skips valid a zero off = ap (rank valid) (let e : a + 0 ≡ a = omega arith in e)
rank_skips valid a (suc n) off =
    ap (rank valid) (let e : a + suc n ≡ (a + n) + 1 = omega arith in e) ∙ rank_off valid (a + n) (off n (omega arith)) ∙ rank_skips valid a n (λ i lt. off i (omega (arith, lt)))

last_skips : (valid : ℕ → Bool) (value : ℕ → ℤ) (a n : ℕ) → ((i : ℕ) → i < n → valid (a + i) ≡ false) → last_value valid value (a + n) ≡ last_value valid value a
last_skips valid value a zero off = ap (last_value valid value) (let e : a + 0 ≡ a = omega arith in e)
last_skips valid value a (suc n) off =
    ap (last_value valid value) (let e : a + suc n ≡ suc (a + n) = omega arith in e) ∙ last-suc valid value (a + n)
    ∙ ap (λ b. cond b (value (a + n)) (last_value valid value (a + n))) (off n (omega arith)) ∙ last_skips valid value a n (λ i lt. off i (omega (arith, lt)))

pub none_at : (valid : ℕ → Bool) (value : ℕ → ℤ) (place n : ℕ) {kept left : Bool} {z last : ℤ} {m count : ℕ} → 0 < n → ((i : ℕ) → i < n → valid (place + i) ≡ false) → IsAt valid value place kept z m
    → left ≡ false → last ≡ z → count ≡ m → IsAt valid value (place + n) left last count
none_at valid value place n {kept} {left} {z} {last} {m} {count} some off at el ez ec = record {
  left_is = λ _. el ∙ sym (ap valid (let e : place + n - 1 ≡ place + (n - 1) = omega (arith, some) in e) ∙ off (n - 1) (omega (arith, some)));
  last_is = ez ∙ at.last_is ∙ sym (last_skips valid value place n off);
  count_is = ec ∙ at.count_is ∙ sym (rank_skips valid place n off);
}

-- ---- each pixel

pub rank_counts : (valid : ℕ → Bool) (a n : ℕ) → ((i : ℕ) → i < n → valid (a + i) ≡ true) → rank valid (a + n) ≡ rank valid a + n
rank_counts valid a zero on = let e : a + 0 ≡ a = omega arith in ap (rank valid) e ∙ (let f : rank valid a ≡ rank valid a + 0 = omega arith in f)
rank_counts valid a (suc n) on =
    let e : a + suc n ≡ (a + n) + 1 = omega arith in
    let here : rank valid (a + suc n) ≡ rank valid (a + n) + 1 = ap (rank valid) e ∙ rank_on valid (a + n) (on n (omega arith)) in
    let before = rank_counts valid a n (λ i lt. on i (omega (arith, lt))) in
    omega (arith, here, before)

pub whole_room : (valid : ℕ → Bool) (place n : ℕ) {count room : ℕ} → ((i : ℕ) → i < n → valid (place + i) ≡ true) → count ≡ rank valid place → rank valid (place + n) ≤ room → count + n ≤ room
whole_room valid place n {count} {room} on e le = let all = rank_counts valid place n on in omega (arith, all, e, le)

pub whole_at : (valid : ℕ → Bool) (value : ℕ → ℤ) (place n : ℕ) {left : Bool} {last : ℤ} {m count : ℕ} → 0 < n → ((i : ℕ) → i < n → valid (place + i) ≡ true) → m ≡ rank valid place
    → left ≡ true → last ≡ value (place + (n - 1)) → count ≡ m + n → IsAt valid value (place + n) left last count
whole_at valid value place n {left} {last} {m} {count} some on em el ez ec =
    let end = on (n - 1) (omega (arith, some)) in
    let e : place + n ≡ suc (place + (n - 1)) = omega (arith, some) in
    record {
      left_is = λ _. el ∙ sym (ap valid (let f : place + n - 1 ≡ place + (n - 1) = omega (arith, some) in f) ∙ end);
      last_is = ez ∙ sym (ap (last_value valid value) e ∙ last-suc valid value (place + (n - 1)) ∙ ap (λ b. cond b (value (place + (n - 1))) (last_value valid value (place + (n - 1)))) end);
      count_is = let all = rank_counts valid place n on in omega (arith, all, em, ec);
    }

-- the symbols of the first by its predictor and of each other by the value before are those of the pixels
pub whole_coded : (kind : PixelType) (cols : ℕ) (valid : ℕ → Bool) (value : ℕ → ℤ) (place n : ℕ) (symbols : List ℕ) → 0 < cols → place % cols + n ≤ cols → ((i : ℕ) → i < n → valid (place + i) ≡ true)
    → symbol_of kind (value place -ℤ predictor cols valid value place) ≡ get_or symbols (rank valid place) 0
    → ((i : ℕ) → 0 < i → i < n → symbol_of kind (value (place + i) -ℤ value (place + (i - 1))) ≡ get_or symbols (rank valid place + i) 0)
    → AreCoded kind cols valid value place (place + n) symbols
whole_coded kind cols valid value place n symbols some within on first others = record {
  each = λ k from lt here.
      let i = k - place in
      let e : place + i ≡ k = omega (arith, from) in
      let below : i < n = omega (arith, from, lt) in
      ap (delta kind cols valid value) (sym e) ∙ at i below ∙ ap (λ q. get_or symbols q 0) (sym (rank_counts valid place i (λ j less. on j (omega (arith, less, below)))) ∙ ap (rank valid) e);
}
  where
    before : (i : ℕ) → 0 < i → i < n → predictor cols valid value (place + i) ≡ value (place + (i - 1))
    before i above below =
        let across = column place i cols some (omega (arith, below, within)) in
        let inner : nat_lt 0 ((place + i) % cols) ≡ true = lt-ltb 0 ((place + i) % cols) (omega (arith, across, above)) in
        let e : place + i - 1 ≡ place + (i - 1) = omega (arith, above) in
        let yes_ : valid (place + i - 1) ≡ true = ap valid e ∙ on (i - 1) (omega (arith, below)) in
        predictor-is cols valid value (place + i)
        ∙ (λ t. cond (inner t && yes_ t) (value (place + i - 1)) (cond (has_upper cols valid (place + i)) (value (place + i - cols)) (last_value valid value (place + i))))
        ∙ ap value e

    at : (i : ℕ) → i < n → delta kind cols valid value (place + i) ≡ get_or symbols (rank valid place + i) 0
    at i below = elim (cases_lt 0 i) [
      | inl above ↦ ap (λ p. symbol_of kind (value (place + i) -ℤ p)) (before i above below) ∙ others i above below
      | inr none ↦
          let e : place + i ≡ place = omega (arith, none) in
          let f : rank valid place ≡ rank valid place + i = omega (arith, none) in
          ap (delta kind cols valid value) e ∙ first ∙ ap (λ q. get_or symbols q 0) f
    ]

-- ---- numbers of 64 bits

pub fits_bits : (kind : PixelType) {k : PixelType} {z p : ℤ} → IsByteType kind → InRange kind p → z ≡ p → k ≡ kind → InRange k (to_z w64 (of_z w64 z))
fits_bits kind {k} {z} {p} byte fits e ek =
    subst (λ (t : PixelType). InRange t (to_z w64 (of_z w64 z))) (sym ek) (subst (InRange kind) (sym (ap (λ x. to_z w64 (of_z w64 x)) e ∙ same kind p byte fits)) fits)

pub bits_are : (kind : PixelType) {z p : ℤ} → IsByteType kind → InRange kind p → z ≡ p → to_z w64 (of_z w64 z) ≡ p
bits_are kind {z} {p} byte fits e = ap (λ x. to_z w64 (of_z w64 x)) e ∙ same kind p byte fits

pub some_cols : (place cols : ℕ) → place % cols + 1 ≤ cols → 0 < cols
some_cols place cols le = omega (arith, le)
