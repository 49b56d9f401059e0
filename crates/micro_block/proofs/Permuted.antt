-- The length and the form of a chosen block depend neither on the order of its values nor on where it stands.
use Rattle.std.proofs.Common.{◌≡◌, ℕ, suc, ◌+◌, ◌*◌, ◌^◌, ◌<◌, ◌≤◌, ℤ, pos, ◌≤ℤ◌, List, [], ◌∷◌, length, get_or, map, refl, sym, ap, subst, ◌∙◌, arith, ◌⊎◌, inl, inr}
use Rattle.std.specs.Prelude.{Contains, Option, Some, None, not, ◌&&◌, nat_eq, nat_le, nat_lt, if◌then◌else◌}
use Rattle.std.specs.List.Sorted.{IsPermutation}
use Rattle.std.proofs.lemmas.Int.{ints, fold-int_min_reached}
use Rattle.std.proofs.lemmas.List.{get_or_default}
use Rattle.std.proofs.lemmas.List.Sorted.{Contains-permutation, IsPermutation-map, IsPermutation-sym, length_permutation}
use Rattle.raster_cells.specs.declared.kind.PixelType.{PixelType}
use Rattle.raster_cells.specs.PixelType.{bytes_of}
use Rattle.bit_stuff.specs.Head.{head_size}
use Rattle.bit_stuff.specs.Simple.{binary_digits, greatest_number}
use Rattle.bit_stuff.specs.Stuffed.{stuffed_size}
use Rattle.bit_stuff.proofs.Digits.{greatest-lt}
use Rattle.lut_stuff.specs.Tables.{distinct_above_0, entries_of, table_bytes, table_size}
use Rattle.lut_stuff.proofs.Rising.{entries_from, entries_have, entries_rising, has_at, has_below_greatest, has_permuted, rising_above, rising_same, Has}
use Rattle.lut_stuff.proofs.Tabled.{distinct_is, length-table_bytes}
use Rattle.micro_block.specs.Fewest.{first_least, IsFirstLeast}
use Rattle.micro_block.specs.Near.{quantised}
use Rattle.micro_block.specs.ChosenBlock.{block_bytes, chosen_form, least_value, quantised_values}
use Rattle.micro_block.specs.inside.Forms.{form_at, named}
use Rattle.micro_block.specs.inside.Sizes.{closed_sizes, tabled_size}
use Rattle.micro_block.proofs.Chosen.{placed}
use Rattle.micro_block.proofs.Closed.{chosen_at, chosen_size}
use Rattle.micro_block.proofs.Fewest.{is_first_least, IsTaken}
use Rattle.micro_block.proofs.Written.{least_below}

-- ---- numbers

greatest_within : (xs ys : List ℕ) → IsPermutation xs ys → greatest_number xs ≤ greatest_number ys
greatest_within xs ys p =
    let lt : greatest_number xs < suc (greatest_number ys) = greatest-lt (suc (greatest_number ys)) xs (omega arith)
    (λ i low. let le = has_below_greatest ys (get_or xs i 0) (has_permuted xs ys (get_or xs i 0) p (has_at xs i low)) in omega (arith, le)) in
    omega (arith, lt)

same_greatest : (xs ys : List ℕ) → IsPermutation xs ys → greatest_number xs ≡ greatest_number ys
same_greatest xs ys p =
    let a = greatest_within xs ys p in
    let b = greatest_within ys xs (IsPermutation-sym xs ys p) in
    omega (arith, a, b)

entries_carried : (xs ys : List ℕ) (z : ℕ) → IsPermutation xs ys → Has z (entries_of xs) → Has z (entries_of ys)
entries_carried xs ys z p h = entries_have ys z (has_permuted xs ys z p (entries_from xs z h)) (rising_above 0 (entries_of xs) z (entries_rising xs) h)

same_entries : (xs ys : List ℕ) → IsPermutation xs ys → entries_of xs ≡ entries_of ys
same_entries xs ys p =
    rising_same 0 0 (entries_of xs) (entries_of ys) (entries_rising xs) (entries_rising ys) (λ z h. entries_carried xs ys z p h) (λ z h. entries_carried ys xs z (IsPermutation-sym xs ys p) h)

same_distinct : (xs ys : List ℕ) → IsPermutation xs ys → distinct_above_0 xs ≡ distinct_above_0 ys
same_distinct xs ys p = distinct_is xs ∙ ap length (same_entries xs ys p) ∙ sym (distinct_is ys)

-- the length of a list in the table form, by numbers alone
tabled_length : ℕ → ℕ → ℕ → ℕ
tabled_length n d g = head_size n + (1 + stuffed_size d (binary_digits g) + stuffed_size n (binary_digits d))

same_table_length : (xs ys : List ℕ) → IsPermutation xs ys → length (table_bytes xs) ≡ length (table_bytes ys)
unfolding tabled_length
same_table_length xs ys p =
    length-table_bytes xs
    ∙ ap (λ (n : ℕ). tabled_length n (distinct_above_0 xs) (greatest_number xs)) (sym (length_permutation xs ys p))
    ∙ ap (λ (d : ℕ). tabled_length (length ys) d (greatest_number xs)) (same_distinct xs ys p)
    ∙ ap (λ (g : ℕ). tabled_length (length ys) (distinct_above_0 ys) g) (same_greatest xs ys p)
    ∙ sym (length-table_bytes ys)

same_table_size : (xs ys : List ℕ) → IsPermutation xs ys → table_size xs ≡ table_size ys
same_table_size xs ys p =
    ap (λ (d : ℕ). if nat_lt 0 d && nat_le d 254 then Some (length (table_bytes xs)) else None) (same_distinct xs ys p)
    ∙ ap (λ (n : ℕ). if nat_lt 0 (distinct_above_0 ys) && nat_le (distinct_above_0 ys) 254 then Some n else None) (same_table_length xs ys p)

-- ---- the least value

least_among : (v : ℤ) (vs : List ℤ) → Contains (v ∷ vs) (least_value (v ∷ vs))
least_among v vs = by (fold-int_min_reached v vs (least_value (v ∷ vs)) refl)
  where
    by : (least_value (v ∷ vs) ≡ v) ⊎ Contains vs (least_value (v ∷ vs)) → Contains (v ∷ vs) (least_value (v ∷ vs))
    by (inl e) = (0, omega arith, sym e)
    by (inr c) = (suc c.0, omega (arith, c.1), c.2)

least_within : (vs : List ℤ) (v : ℤ) → Contains vs v → least_value vs ≤ℤ v
least_within vs v c = subst (λ (u : ℤ). least_value vs ≤ℤ u) (get_or_default vs c.0 (pos 0) v c.1 ∙ c.2) (least_below vs c.0 c.1)

same_least : (vs us : List ℤ) → IsPermutation vs us → least_value vs ≡ least_value us
same_least [] [] p = refl
same_least [] (u ∷ us) p = absurd (let e = length_permutation [] (u ∷ us) p in omega (arith, e))
same_least (v ∷ vs) [] p = absurd (let e = length_permutation (v ∷ vs) [] p in omega (arith, e))
same_least (v ∷ vs) (u ∷ us) p =
    let a : least_value (u ∷ us) ≤ℤ least_value (v ∷ vs) = least_within (u ∷ us) (least_value (v ∷ vs)) (Contains-permutation (v ∷ vs) (u ∷ us) (least_value (v ∷ vs)) p (least_among v vs)) in
    let b : least_value (v ∷ vs) ≤ℤ least_value (u ∷ us) = least_within (v ∷ vs) (least_value (u ∷ us)) (Contains-permutation (u ∷ us) (v ∷ vs) (least_value (u ∷ us)) (IsPermutation-sym (v ∷ vs) (u ∷ us) p) (least_among u us)) in
    both (least_value (v ∷ vs)) (least_value (u ∷ us)) b a
  where
    both : (x y : ℤ) → x ≤ℤ y → y ≤ℤ x → x ≡ y
    both x y a b = omega (arith, ints)

-- ---- the block

same_quantised : (step : ℕ) (values others : List ℤ) → IsPermutation values others → IsPermutation (quantised_values step values) (quantised_values step others)
same_quantised step values others p =
    subst (λ (m : ℤ). IsPermutation (quantised_values step values) (map (quantised step m) others)) (same_least values others p) (IsPermutation-map (quantised step (least_value values)) values others p)

same_tabled : (step : ℕ) (values others : List ℤ) → IsPermutation values others → tabled_size step values ≡ tabled_size step others
same_tabled step values others p =
    let q = same_quantised step values others p in
    ap (λ (g : ℕ). if not (nat_eq g 0) && nat_lt g (2 ^ 30) then table_size (quantised_values step values) else None) (same_greatest (quantised_values step values) (quantised_values step others) q)
    ∙ ap (λ (t : Option ℕ). if not (nat_eq (greatest_number (quantised_values step others)) 0) && nat_lt (greatest_number (quantised_values step others)) (2 ^ 30) then t else None)
    (same_table_size (quantised_values step values) (quantised_values step others) q)

sizes_of : PixelType → ℕ → List ℤ → List (Option ℕ)
sizes_of kind step values = closed_sizes kind (length values) (least_value values) (greatest_number (quantised_values step values)) (tabled_size step values)

same_sizes : (kind : PixelType) (step : ℕ) (values others : List ℤ) → IsPermutation values others → sizes_of kind step values ≡ sizes_of kind step others
unfolding sizes_of
same_sizes kind step values others p =
    ap (λ (n : ℕ). closed_sizes kind n (least_value values) (greatest_number (quantised_values step values)) (tabled_size step values)) (sym (length_permutation values others p))
    ∙ ap (λ (m : ℤ). closed_sizes kind (length others) m (greatest_number (quantised_values step values)) (tabled_size step values)) (same_least values others p)
    ∙ ap (λ (g : ℕ). closed_sizes kind (length others) (least_value others) g (tabled_size step values)) (same_greatest (quantised_values step values) (quantised_values step others) (same_quantised step values others p))
    ∙ ap (closed_sizes kind (length others) (least_value others) (greatest_number (quantised_values step others))) (same_tabled step values others p)

-- one of the sizes is the first least
first_of : (kind : PixelType) (step : ℕ) (values : List ℤ) → (k : ℕ) × ((n : ℕ) × IsFirstLeast (λ m. m) (sizes_of kind step values) k n)
unfolding sizes_of
first_of kind step values = by (first_least (λ m. m) sizes) (is_first_least (λ m. m) sizes)
  where
    sizes : List (Option ℕ)
    sizes = closed_sizes kind (length values) (least_value values) (greatest_number (quantised_values step values)) (tabled_size step values)

    by : (o : Option ℕ) → IsTaken (λ m. m) sizes o → (k : ℕ) × ((n : ℕ) × IsFirstLeast (λ m. m) sizes k n)
    by None none = absurd (none 2 (1 + length values * bytes_of kind) refl)
    by (Some n) (k, is) = (k, (n, is))

size_is : (kind : PixelType) (col step : ℕ) (values : List ℤ) (k n : ℕ) → IsFirstLeast (λ m. m) (sizes_of kind step values) k n → length (block_bytes kind col step values) ≡ n
unfolding sizes_of
size_is kind col step values k n is = chosen_size kind col step values k n is

form_there : (kind : PixelType) (col step : ℕ) (values : List ℤ) (k n : ℕ) → IsFirstLeast (λ m. m) (sizes_of kind step values) k n → named (form_at k) ≡ chosen_form kind col step values
unfolding sizes_of
form_there kind col step values k n is = placed step values (chosen_form kind col step values) k (chosen_at kind col step values k n is)

pub same_length : (kind : PixelType) (col other_col step : ℕ) (values others : List ℤ) → IsPermutation values others → length (block_bytes kind col step values) ≡ length (block_bytes kind other_col step others)
same_length kind col other_col step values others p =
    let first = first_of kind step values in
    size_is kind col step values first.0 first.1.0 first.1.1
    ∙ sym (size_is kind other_col step others first.0 first.1.0 (subst (λ (sizes : List (Option ℕ)). IsFirstLeast (λ m. m) sizes first.0 first.1.0) (same_sizes kind step values others p) first.1.1))

pub same_form : (kind : PixelType) (col other_col step : ℕ) (values others : List ℤ) → IsPermutation values others → chosen_form kind col step values ≡ chosen_form kind other_col step others
same_form kind col other_col step values others p =
    let first = first_of kind step values in
    sym (form_there kind col step values first.0 first.1.0 first.1.1)
    ∙ form_there kind other_col step others first.0 first.1.0 (subst (λ (sizes : List (Option ℕ)). IsFirstLeast (λ m. m) sizes first.0 first.1.0) (same_sizes kind step values others p) first.1.1)
