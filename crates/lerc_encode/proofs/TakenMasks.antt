-- The runs that are written for a mask, which stand for it.
use Rattle.std.proofs.Common.{◌≡◌, ℕ, ◌*◌, ◌^◌, ◌<◌, ◌≤◌, zero, suc, Bool, true, false, List, [], ◌∷◌, ◌++◌, length, get_or, drop, refl, sym, ap, ◌∙◌, subst, arith, length-append, Option, Some, None, ◌⊎◌, inl, inr}
use Rattle.std.specs.Prelude.{pos, not, nat_eq, ◌&&◌, ◌||◌, All, if◌then◌else◌}
use Rattle.std.specs.Bool.{beq}
use Rattle.std.specs.Cmp.{booleans_Decides}
use Rattle.std.specs.Cmp.Lexicographic.{pointwise}
use Rattle.std.proofs.lemmas.Bool.{and_parts, eqb-true, eq-eqb}
use Rattle.std.proofs.lemmas.Bool.Decides.{nat_tests}
use Rattle.std.proofs.lemmas.Int.{ints}
use Rattle.std.proofs.lemmas.List.{drop_at}
use Rattle.std.proofs.lemmas.Slice.Eq.{slice_eq-Decides}
use Rattle.byteorder.specs.Numbers.{little_number-reads_back}
use Rattle.byteorder.specs.Endian.{little_bytes, twos_complement}
use Rattle.mask_runs.specs.Runs.{Runs}
use Rattle.mask_runs.proofs.Chosen.{chosen_are_runs}
use Rattle.raster_values.specs.Raster.{Pixels, IsRaster, valid_count}
use Rattle.raster_values.specs.Flat.{marks_of}
use Rattle.lerc_header.specs.Head.{i32_at}
use Rattle.lerc_grammar.specs.Mask.{IsMaskAfter, Previous, previous_of, alike, mixed, previous, count_of, marks_before, IsAlike}
use Rattle.lerc_encode.specs.Masks.{packed, are_alike, are_same, mask_runs_of, mask_part, runs_after, runs_unless, takes_mask}
use Rattle.lerc_encode.proofs.Packing.{count_marks, long_marks, mask_few, alike_runs, mixed_runs, packed_bits, packed_below, length_packed, all_off, all_on}

-- ---- the mask

-- four bytes of a small number stand for it
four_bytes : (n : ℕ) (rest : List ℕ) → n < 2 ^ 31 → i32_at (little_bytes 4 n ++ rest) 0 ≡ pos n
unfolding i32_at
four_bytes n rest low = ap (twos_complement 4) (little_number-reads_back 4 n rest (omega (arith, low))) ∙ twos_small n low
  where
    twos_small : (x : ℕ) → x < 2 ^ 31 → twos_complement 4 x ≡ pos x
    twos_small x below = grind (arith, nat_tests, ints)

or_true : (a b : Bool) → (a || b) ≡ true → (a ≡ true) ⊎ (b ≡ true)
or_true true b h = inl refl
or_true false b h = inr h

or_false : (a b : Bool) → (a || b) ≡ false → (a ≡ false) × (b ≡ false)
or_false true b h = absurd (cc)
or_false false b h = (refl, h)

not_alike : (marks : List Bool) → are_alike marks ≡ false → IsAlike (length marks) (count_of marks) → ⊥
not_alike marks e = by (or_false (nat_eq (count_of marks) 0) (nat_eq (count_of marks) (length marks)) e)
  where
    by : (nat_eq (count_of marks) 0 ≡ false) × (nat_eq (count_of marks) (length marks) ≡ false) → IsAlike (length marks) (count_of marks) → ⊥
    by (f, g) (inl h) = let t = eq-eqb (count_of marks) 0 h in cc
    by (f, g) (inr h) = let t = eq-eqb (count_of marks) (length marks) h in cc

alike_stands : (before : Option (List Bool)) (marks : List Bool) → are_alike marks ≡ true → IsMaskAfter before (length marks) (count_of marks) (mask_part (mask_runs_of marks)) marks
unfolding mask_part
alike_stands before marks e = by (or_true (nat_eq (count_of marks) 0) (nat_eq (count_of marks) (length marks)) e)
  where
    none : mask_runs_of marks ≡ []
    none = alike_runs marks e

    long : length (little_bytes 4 (length (mask_runs_of marks)) ++ mask_runs_of marks) ≡ 4
    long = length-append (little_bytes 4 (length (mask_runs_of marks))) (mask_runs_of marks) ∙ (let l = ap length none in omega (arith, l))

    zero_there : i32_at (little_bytes 4 (length (mask_runs_of marks)) ++ mask_runs_of marks) 0 ≡ pos 0
    zero_there = four_bytes (length (mask_runs_of marks)) (mask_runs_of marks) (let l = ap length none in omega (arith, l)) ∙ ap (λ (u : List ℕ). pos (length u)) none

    by : (nat_eq (count_of marks) 0 ≡ true) ⊎ (nat_eq (count_of marks) (length marks) ≡ true) → IsMaskAfter before (length marks) (count_of marks) (little_bytes 4 (length (mask_runs_of marks)) ++ mask_runs_of marks) marks
    by (inl t) = alike false (eqb-true (count_of marks) 0 t) long zero_there (all_off marks (eqb-true (count_of marks) 0 t))
    by (inr t) = alike true (eqb-true (count_of marks) (length marks) t) long zero_there (all_on marks (eqb-true (count_of marks) (length marks) t))

same_read : (xs : List ℕ) (k d : ℕ) → k < length xs → get_or xs k 0 ≡ get_or xs k d
same_read [] k d low = absurd (omega (arith, low))
same_read (x ∷ xs) zero d low = refl
same_read (x ∷ xs) (suc k) d low = same_read xs k d (omega (arith, low))

mixed_stands : (before : Option (List Bool)) (marks : List Bool) → length (mask_runs_of marks) ≤ 6291458 → are_alike marks ≡ false → IsMaskAfter before (length marks) (count_of marks) (mask_part (mask_runs_of marks)) marks
unfolding mask_part
mixed_stands before marks few e =
    let runs = mixed_runs marks e in
    let behind : drop 4 (little_bytes 4 (length (mask_runs_of marks)) ++ mask_runs_of marks) ≡ mask_runs_of marks = drop_at (little_bytes 4 (length (mask_runs_of marks))) (mask_runs_of marks) 4 refl in
    let bytes : All (λ byte. byte < 256) (packed marks) = λ k d low. subst (λ n. n < 256) (same_read (packed marks) k d low) (packed_below marks k) in
    mixed (packed marks) (not_alike marks e) (let l = length-append (little_bytes 4 (length (mask_runs_of marks))) (mask_runs_of marks) in omega (arith, l))
    (four_bytes (length (mask_runs_of marks)) (mask_runs_of marks) (omega (arith, few)) ∙ ap (λ (u : List ℕ). pos (length u)) (sym behind))
    (subst (λ (u : List ℕ). Runs u (packed marks)) (sym (behind ∙ runs)) (chosen_are_runs (packed marks) bytes))
    (length_packed marks) (sym (packed_bits marks)) refl

-- ---- behind the raster before

-- a mask is taken exactly where the marks before are these, and some pixels are valid and some are
-- not
same_is : (before : Option (List Bool)) (marks : List Bool) → are_same before marks ≡ true → before ≡ Some marks
same_is None marks e = absurd (cc)
same_is (Some those) marks e = ap (λ (u : List Bool). Some u) ((slice_eq-Decides booleans_Decides those marks (pointwise beq those marks) refl).0 e)

same_told : (before : Option (List Bool)) (marks : List Bool) → before ≡ Some marks → are_same before marks ≡ true
same_told None marks e = absurd (cc)
same_told (Some those) marks e = (slice_eq-Decides booleans_Decides those marks (pointwise beq those marks) refl).1 (let f : those ≡ marks = cc in f)

off : (b : Bool) → not b ≡ true → b ≡ false
off true e = absurd (cc)
off false e = refl

pub taken_is : (before : Option Previous) (r : Pixels) → takes_mask before r ≡ true → (marks_before before r.rows r.cols ≡ Some (marks_of r)) × (are_alike (marks_of r) ≡ false)
taken_is before r e =
    let both = and_parts (are_same (marks_before before r.rows r.cols) (marks_of r)) (not (are_alike (marks_of r))) e in
    (same_is (marks_before before r.rows r.cols) (marks_of r) both.0, off (are_alike (marks_of r)) both.1)

pub taken_told : (before : Option Previous) (r : Pixels) → marks_before before r.rows r.cols ≡ Some (marks_of r) → are_alike (marks_of r) ≡ false → takes_mask before r ≡ true
taken_told before r e f =
    (λ t. same_told (marks_before before r.rows r.cols) (marks_of r) e t && not (f t))

before_is : (p : Previous) (rows cols : ℕ) (marks : List Bool) → marks_before (Some p) rows cols ≡ Some marks → (p.rows ≡ rows) × ((p.cols ≡ cols) × (p.marks ≡ marks))
before_is p rows cols marks e = by (nat_eq p.rows rows) refl (nat_eq p.cols cols) refl e
  where
    by : (a : Bool) → nat_eq p.rows rows ≡ a → (b : Bool) → nat_eq p.cols cols ≡ b → (if a && b then Some p.marks else None) ≡ Some marks → (p.rows ≡ rows) × ((p.cols ≡ cols) × (p.marks ≡ marks))
    by true f true g h = (eqb-true p.rows rows f, (eqb-true p.cols cols g, (let same : p.marks ≡ marks = cc in same)))
    by true f false g h = absurd (cc)
    by false f b g h = absurd (cc)

before_told : (p : Previous) (rows cols : ℕ) → p.rows ≡ rows → p.cols ≡ cols → marks_before (Some p) rows cols ≡ Some p.marks
before_told p rows cols e f = (λ t. if eq-eqb p.rows rows e t && eq-eqb p.cols cols f t then Some p.marks else None)

untaken : (before : Option Previous) (r : Pixels) → (takes_mask before r ≡ true → ⊥) → takes_mask before r ≡ false
untaken before r none = by (takes_mask before r) refl
  where
    by : (b : Bool) → takes_mask before r ≡ b → takes_mask before r ≡ false
    by true e = absurd (none e)
    by false e = e

-- a test that says so of pixels that are not all alike is the choice's
pub taken_by : (p r : Pixels) (b : Bool) → are_alike (marks_of r) ≡ false → p.rows ≡ r.rows → p.cols ≡ r.cols → (b ≡ true → marks_of p ≡ marks_of r) → (marks_of p ≡ marks_of r → b ≡ true) → b ≡ takes_mask (Some (previous_of p)) r
taken_by p r true uneven rows cols is told = sym (taken_told (Some (previous_of p)) r (before_told (previous_of p) r.rows r.cols rows cols ∙ ap (λ (u : List Bool). Some u) (is refl)) uneven)
taken_by p r false uneven rows cols is told = sym (untaken (Some (previous_of p)) r (λ e. let t = told (before_is (previous_of p) r.rows r.cols (marks_of r) (taken_is (Some (previous_of p)) r e).0).1.1 in cc))

-- no runs, where the marks are those before
taken_stands : (before : Option (List Bool)) (marks : List Bool) → before ≡ Some marks → are_alike marks ≡ false → IsMaskAfter before (length marks) (count_of marks) (mask_part []) marks
unfolding mask_part
taken_stands before marks same e = previous (not_alike marks e) refl (four_bytes 0 [] (omega arith)) same refl

unless_stands : (before : Option (List Bool)) (marks : List Bool) (taken : Bool) → (taken ≡ true → (before ≡ Some marks) × (are_alike marks ≡ false)) → length (mask_runs_of marks) ≤ 6291458
    → IsMaskAfter before (length marks) (count_of marks) (mask_part (runs_unless taken marks)) marks
unless_stands before marks true tells few = taken_stands before marks (tells refl).0 (tells refl).1
unless_stands before marks false tells few = by (are_alike marks) refl
  where
    by : (b : Bool) → are_alike marks ≡ b → IsMaskAfter before (length marks) (count_of marks) (mask_part (mask_runs_of marks)) marks
    by true e = alike_stands before marks e
    by false e = mixed_stands before marks few e

pub mask_stands : (before : Option Previous) (r : Pixels) → IsRaster r → IsMaskAfter (marks_before before r.rows r.cols) (r.rows * r.cols) (valid_count r) (mask_part (runs_after before r)) (marks_of r)
mask_stands before r is =
    let marks = marks_of r in
    let those = marks_before before r.rows r.cols in
    subst (λ n. IsMaskAfter those n (valid_count r) (mask_part (runs_after before r)) marks) (long_marks r is)
    (subst (λ n. IsMaskAfter those (length marks) n (mask_part (runs_after before r)) marks) (sym (count_marks r))
    (unless_stands those marks (takes_mask before r) (taken_is before r) (mask_few r is)))

unless_few : (r : Pixels) → IsRaster r → (taken : Bool) → length (runs_unless taken (marks_of r)) ≤ length (mask_runs_of (marks_of r))
unless_few r is true = omega arith
unless_few r is false = omega arith

-- leaving the runs out makes no blob longer
pub runs_few : (before : Option Previous) (r : Pixels) → IsRaster r → length (runs_after before r) ≤ length (mask_runs_of (marks_of r))
runs_few before r is = unless_few r is (takes_mask before r)
