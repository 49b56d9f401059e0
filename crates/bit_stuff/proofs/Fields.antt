-- The number that values make as its fields.
use Rattle.std.proofs.Common.{◌≡◌, ℕ, zero, suc, ◌+◌, ◌*◌, ◌/◌, ◌%◌, ◌^◌, ◌<◌, ◌≤◌, List, [], ◌∷◌, ◌++◌, length, get_or, take, slice_index, refl, sym, ap, ◌∙◌, arith}
use Rattle.std.proofs.lemmas.Nat.{pow-add, pow_pos, shr-shr, shr_high, mod_low, mod-pow-add}
use Rattle.std.proofs.lemmas.List.{take_more, length-take-le}
use Rattle.std.proofs.Math.Nat.{div-one, mul-le-mul_left}
use Rattle.bit_stuff.specs.Stuffed.{number_of_values, field_at}

pub values-nil : (w : ℕ) → number_of_values w [] ≡ 0
unfolding number_of_values
values-nil w = refl

pub values-cons : (w v : ℕ) (vs : List ℕ) → number_of_values w (v ∷ vs) ≡ v + 2 ^ w * number_of_values w vs
unfolding number_of_values
values-cons w v vs = refl

-- one more field above n fields
pub pow_more : (w n : ℕ) → 2 ^ (w * suc n) ≡ 2 ^ w * 2 ^ (w * n)
pow_more w n =
    let longer : w * suc n ≡ w + w * n = omega arith in
    ap (λ (k : ℕ). 2 ^ k) longer ∙ pow-add 2 w (w * n)

pub values-append : (w : ℕ) (xs ys : List ℕ) → number_of_values w (xs ++ ys) ≡ number_of_values w xs + 2 ^ (w * length xs) * number_of_values w ys
values-append w [] ys = let none : w * 0 ≡ 0 = omega arith in rw (values-nil w, none) (omega arith)
values-append w (x ∷ xs) ys =
    rw (values-cons w x (xs ++ ys), values-append w xs ys, values-cons w x xs, pow_more w (length xs)) (omega arith)

pub values-take : (w : ℕ) (vs : List ℕ) (i : ℕ) → i < length vs → number_of_values w (take (i + 1) vs) ≡ number_of_values w (take i vs) + 2 ^ (w * i) * get_or vs i 0
values-take w vs i h =
    let here : number_of_values w (get_or vs i 0 ∷ []) ≡ get_or vs i 0 = rw (values-cons w (get_or vs i 0) [], values-nil w) (omega arith) in
    ap (number_of_values w) (take_more vs i 0 h) ∙ values-append w (take i vs) (get_or vs i 0 ∷ [])
    ∙ ap (λ (n : ℕ). number_of_values w (take i vs) + 2 ^ (w * n) * number_of_values w (get_or vs i 0 ∷ [])) (length-take-le i vs (omega arith))
    ∙ ap (λ (n : ℕ). number_of_values w (take i vs) + 2 ^ (w * i) * n) here

pub values-lt : (w : ℕ) (vs : List ℕ) → ((i : ℕ) → i < length vs → slice_index vs i < 2 ^ w) → number_of_values w vs < 2 ^ (w * length vs)
values-lt w [] h = let none : w * 0 ≡ 0 = omega arith in rw (values-nil w, none) (omega arith)
values-lt w (v ∷ vs) h =
    let first : v < 2 ^ w = h 0 (omega arith) in
    let rest : number_of_values w vs < 2 ^ (w * length vs) = values-lt w vs (λ i below. h (suc i) (omega arith)) in
    let top : 2 ^ w * (number_of_values w vs + 1) ≤ 2 ^ w * 2 ^ (w * length vs) = mul-le-mul_left (2 ^ w) (omega arith) in
    rw (values-cons w v vs, pow_more w (length vs)) (omega arith)

-- a field above the lowest one is a field of what stands above it
pub field-suc : (w n i : ℕ) → field_at w n (suc i) ≡ field_at w (n / 2 ^ w) i
field-suc w n i =
    let longer : w * suc i ≡ w + w * i = omega arith in
    ap (λ (k : ℕ). n / 2 ^ k % 2 ^ w) longer ∙ ap (λ (m : ℕ). m % 2 ^ w) (sym (shr-shr n w (w * i)))

pub field-zero : (w n : ℕ) → field_at w n 0 ≡ n % 2 ^ w
field-zero w n =
    let none : w * 0 ≡ 0 = omega arith in
    ap (λ (k : ℕ). n / 2 ^ k % 2 ^ w) none ∙ ap (λ (m : ℕ). m % 2 ^ w) (div-one n)

-- the fields of the values' number are the values
pub field_of_values : (w : ℕ) (vs : List ℕ) (i : ℕ) → ((k : ℕ) → k < length vs → slice_index vs k < 2 ^ w) → i < length vs → field_at w (number_of_values w vs) i ≡ slice_index vs i
field_of_values w [] i below h = absurd (omega arith)
field_of_values w (v ∷ vs) zero below h =
    let turned : number_of_values w (v ∷ vs) ≡ number_of_values w vs * 2 ^ w + v = omega (arith, values-cons w v vs) in
    field-zero w (number_of_values w (v ∷ vs)) ∙ ap (λ (n : ℕ). n % 2 ^ w) turned ∙ mod_low (number_of_values w vs) w v (below 0 (omega arith))
field_of_values w (v ∷ vs) (suc i) below h =
    let turned : number_of_values w (v ∷ vs) ≡ number_of_values w vs * 2 ^ w + v = omega (arith, values-cons w v vs) in
    field-suc w (number_of_values w (v ∷ vs)) i
    ∙ ap (λ (n : ℕ). field_at w n i) (ap (λ (n : ℕ). n / 2 ^ w) turned ∙ shr_high (number_of_values w vs) w v (below 0 (omega arith)))
    ∙ field_of_values w vs i (λ k lt. below (suc k) (omega arith)) (omega arith)

-- values that are the fields of a number make what the number has below them
pub values_from_fields : (w n : ℕ) (vs : List ℕ) → ((i : ℕ) → i < length vs → slice_index vs i ≡ field_at w n i) → number_of_values w vs ≡ n % 2 ^ (w * length vs)
values_from_fields w n [] h = let none : w * 0 ≡ 0 = omega arith in rw (values-nil w, none) (omega arith)
values_from_fields w n (v ∷ vs) h =
    let first : v ≡ n % 2 ^ w = h 0 (omega arith) ∙ field-zero w n in
    let rest : number_of_values w vs ≡ n / 2 ^ w % 2 ^ (w * length vs) = values_from_fields w (n / 2 ^ w) vs (λ i lt. h (suc i) (omega arith) ∙ field-suc w n i) in
    let longer : w * suc (length vs) ≡ w * length vs + w = omega arith in
    rw (values-cons w v vs, longer, mod-pow-add n (w * length vs) w, ← rest, ← first) (omega arith)

pub field_of_zero : (w n i : ℕ) → n ≡ 0 → field_at w n i ≡ 0
field_of_zero w n i e = rw e (omega (arith, pow_pos (w * i), pow_pos w))
