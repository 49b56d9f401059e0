-- Steps of finding how long a block is, and of quantising.
use Rattle.std.proofs.Common.{◌≡◌, ℕ, suc, ℤ, pos, ◌+◌, ◌^◌, ◌<◌, ◌≤◌, ◌-ℤ◌, ◌≤ℤ◌, List, [], ◌∷◌, length, get_or, map, refl, sym, ap, ◌∙◌, subst, arith, inl, inr}
use Rattle.std.specs.Prelude.{All, IfSome, Bool, true, false, Option, Some, None, not, ◌&&◌, nat_eq, nat_lt, unsigned_abs, if◌then◌else◌}
use Rattle.std.proofs.lemmas.List.{length-map}
use Rattle.micro_block.specs.inside.Shorter.{IsLong}
use Rattle.micro_block.specs.inside.Sizes.{IsTabledLength}
use Rattle.std.proofs.lemmas.Bool.{cases_lt}
use Rattle.std.proofs.lemmas.Bool.Decides.{nat_tests}
use Rattle.std.proofs.lemmas.Int.{ints}
use Rattle.std.proofs.lemmas.List.Elements.{All-from_get_or, All-map, All-weaker}
use Rattle.bit_stuff.specs.Head.{chosen_code, count_size, head_size}
use Rattle.bit_stuff.specs.Simple.{binary_digits, greatest_number, width_of}
use Rattle.bit_stuff.specs.Stuffed.{stuffed_size}
use Rattle.bit_stuff.proofs.Digits.{digits-le, width_of-le}
use Rattle.bit_stuff.proofs.StuffedLaws.{stuffed_size-le}
use Rattle.lane_kernels.specs.Kernels.{differences}
use Rattle.lut_stuff.specs.Tables.{distinct_above_0, table_size}
use Rattle.lut_stuff.proofs.Tabled.{has_size, length-table_bytes}
use Rattle.micro_block.specs.ChosenBlock.{least_value, quantised_values, is_flat, is_stuffable}
use Rattle.micro_block.specs.Near.{quantised}
use Rattle.micro_block.proofs.Fast.{step_one}
use Rattle.micro_block.proofs.Written.{each_quantised, least_below}

-- a head takes at most five bytes
pub head_few : (n : ℕ) → head_size n ≤ 5
head_few n = elim (cases_lt 255 n) [
  | inl more ↦ elim (cases_lt 65535 n) [
    | inl great ↦ let e : count_size (chosen_code n) ≡ 4 = grind (arith, nat_tests) in omega (arith, e)
    | inr middle ↦ let e : count_size (chosen_code n) ≡ 2 = grind (arith, nat_tests) in omega (arith, e)
  ]
  | inr few ↦ let e : count_size (chosen_code n) ≡ 1 = grind (arith, nat_tests) in omega (arith, e)
]

pub stuffed_few : (n w : ℕ) → n ≤ 256 → w ≤ 31 → stuffed_size n w ≤ 993
stuffed_few n w few narrow = let le : stuffed_size n w ≤ stuffed_size 256 31 = stuffed_size-le n 256 w 31 few narrow in omega (arith, le)

-- a table list of a block is short
pub table_short : (qs : List ℕ) (r : Option ℕ) → r ≡ table_size qs → length qs ≤ 256 → All (λ q. q < 2 ^ 31) qs → IfSome r (λ n. n ≤ 2000)
table_short qs None e few below = tt
table_short qs (Some n) e few below =
    let h = has_size qs n (sym e) in
    let d = distinct_above_0 qs in
    let entries = stuffed_few d (width_of qs) (omega (arith, h.1.0)) (width_of-le 31 qs below) in
    let narrow : binary_digits d ≤ 8 = digits-le 8 d (omega (arith, h.1.0)) in
    let indexes = stuffed_few (length qs) (binary_digits d) few (omega (arith, narrow)) in
    omega (arith, h.1.1, length-table_bytes qs, head_few (length qs), entries, indexes)

pub qs_below : (values : List ℤ) (step : ℕ) (m : ℤ) (qs : List ℕ) → qs ≡ map (quantised step m) values → All (λ v. quantised step m v < 2 ^ 30) values → All (λ q. q < 2 ^ 31) qs
qs_below values step m qs e few =
    subst (λ (u : List ℕ). All (λ q. q < 2 ^ 31) u) (sym e)
    (All-map (λ q. q < 2 ^ 31) (quantised step m) values (All-weaker (λ v. quantised step m v < 2 ^ 30) (λ v. quantised step m v < 2 ^ 31) (λ v below. omega (arith, below)) values few))

-- what the least value tells of the others
pub all_above : (values : List ℤ) (x : ℤ) → x ≡ least_value values → All (λ v. x ≤ℤ v) values
all_above values x e = All-from_get_or (λ v. x ≤ℤ v) values (pos 0) (λ i lt. subst (λ (m : ℤ). m ≤ℤ get_or values i (pos 0)) (sym e) (least_below values i lt))

pub all_few : (values : List ℤ) (step n : ℕ) (x : ℤ) → x ≡ least_value values → greatest_number (quantised_values step values) < n → All (λ v. quantised step x v < n) values
all_few values step n x e few =
    All-from_get_or (λ v. quantised step x v < n) values (pos 0)
    (λ i lt. subst (λ (m : ℤ). quantised step m (get_or values i (pos 0)) < n) (sym e) (each_quantised step n values few i lt))

maps_same : (f g : ℤ → ℤ) (xs : List ℤ) → ((i : ℕ) → i < length xs → f (get_or xs i (pos 0)) ≡ g (get_or xs i (pos 0))) → map f xs ≡ map g xs
maps_same f g [] h = refl
maps_same f g (x ∷ xs) h = λ i. h 0 (omega arith) i ∷ maps_same f g xs (λ k lt. h (suc k) (omega (arith, lt))) i

-- at step 1 the number of steps is the difference
pub differences_are : (values out : List ℤ) (x least : ℤ) (step : ℕ) → step ≡ 1 → x ≡ least → All (λ v. least ≤ℤ v) values → out ≡ differences values x → out ≡ map (λ v. pos (quantised step least v)) values
differences_are values out x least step one same above e =
    e ∙ ap (differences values) same
    ∙ maps_same (λ v. v -ℤ least) (λ v. pos (quantised 1 least v)) values (λ i lt. let le = above i (pos 0) lt in let q = step_one least (get_or values i (pos 0)) in distance (get_or values i (pos 0)) least (quantised 1 least (get_or values i (pos 0))) le q)
    ∙ ap (λ (s : ℕ). map (λ v. pos (quantised s least v)) values) (sym one)
  where
    distance : (v m : ℤ) (q : ℕ) → m ≤ℤ v → q ≡ unsigned_abs (v -ℤ m) → v -ℤ m ≡ pos q
    distance v m q le e = omega (arith, ints)

-- ---- where the table form is no shorter

-- a table of more entries than the bound is no shorter
pub longer_found : (values : List ℤ) (step bound : ℕ) → 0 < greatest_number (quantised_values step values) → bound < distinct_above_0 (quantised_values step values)
    → ((d : ℕ) → bound < d → d ≤ 254 → IsLong (length values) (binary_digits (greatest_number (quantised_values step values))) d) → IsTabledLength step values None
longer_found values step bound some more long = inr (refl, λ n e. longer n (of_test (not (is_flat step values) && is_stuffable step values) n e))
  where
    of_test : (b : Bool) (n : ℕ) → (if b then table_size (quantised_values step values) else None) ≡ Some n → table_size (quantised_values step values) ≡ Some n
    of_test true n e = e
    of_test false n e = absurd (cc)

    longer : (n : ℕ) → table_size (quantised_values step values) ≡ Some n
        → head_size (length values) + stuffed_size (length values) (binary_digits (greatest_number (quantised_values step values))) ≤ n
    longer n e =
        let qs = quantised_values step values in
        let h = has_size qs n e in
        let l = long (distinct_above_0 qs) more h.1.0 in
        let long_is = length-table_bytes qs in
        let count : length qs ≡ length values = length-map values (quantised step (least_value values)) in
        let size : stuffed_size (length qs) (binary_digits (distinct_above_0 qs)) ≡ stuffed_size (length values) (binary_digits (distinct_above_0 qs)) = ap (λ (k : ℕ). stuffed_size k (binary_digits (distinct_above_0 qs))) count in
        let head : head_size (length qs) ≡ head_size (length values) = ap head_size count in
        omega (arith, h.1.1, l, long_is, size, head)

-- no table at all
pub none_found : (values : List ℤ) (step : ℕ) → (not (is_flat step values) && is_stuffable step values) ≡ false → IsTabledLength step values None
none_found values step e = inl (ap (λ b. if b then table_size (quantised_values step values) else None) (sym e))

pub flat_none : (values : List ℤ) (step : ℕ) → greatest_number (quantised_values step values) ≡ 0 → (not (is_flat step values) && is_stuffable step values) ≡ false
flat_none values step e = ap (λ (n : ℕ). not (nat_eq n 0) && nat_lt n (2 ^ 30)) e

pub far_none : (values : List ℤ) (step : ℕ) → 2 ^ 30 ≤ greatest_number (quantised_values step values) → (not (is_flat step values) && is_stuffable step values) ≡ false
far_none values step far = grind (arith, nat_tests)

-- a table where there may be one
pub exact_found : (values : List ℤ) (step : ℕ) (found : Option ℕ) → 0 < greatest_number (quantised_values step values) → greatest_number (quantised_values step values) < 2 ^ 30 → found ≡ table_size (quantised_values step values) → IsTabledLength step values found
exact_found values step found some few e = inl (e ∙ ap (λ b. if b then table_size (quantised_values step values) else None) (sym both))
  where
    both : (not (is_flat step values) && is_stuffable step values) ≡ true
    both = grind (arith, nat_tests)
