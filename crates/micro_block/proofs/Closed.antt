-- The sizes of the forms by numbers alone.
use Rattle.std.proofs.Common.{◌≡◌, ℕ, zero, suc, ◌+◌, ◌*◌, ◌<◌, ℤ, Bool, true, false, List, [], ◌∷◌, length, get_or, map, refl, sym, ap, subst, ◌∙◌, arith, length-append, inl, inr, ◌≤◌, ◌^◌}
use Rattle.std.specs.Prelude.{Option, Some, None, not, ◌&&◌, nat_eq, nat_lt, nat_le, unsigned_abs, unwrap_or, MatchOption, if◌then◌else◌}
use Rattle.std.specs.Option.{option_map}
use Rattle.std.proofs.lemmas.List.{length-map}
use Rattle.raster_cells.specs.declared.kind.PixelType.{PixelType}
use Rattle.raster_cells.specs.PixelType.{bytes_of}
use Rattle.raster_cells.proofs.Pack.{length-value_bytes, length-values_bytes}
use Rattle.bit_stuff.specs.Stuffed.{stuffed_size}
use Rattle.bit_stuff.specs.Head.{head_size}
use Rattle.bit_stuff.specs.Simple.{greatest_number, simple_bytes, binary_digits, width_of}
use Rattle.bit_stuff.proofs.HeadLaws.{length-simple_bytes}
use Rattle.micro_block.specs.Fewest.{allowed, first_least, IsFirstLeast}
use Rattle.micro_block.specs.Near.{quantised}
use Rattle.micro_block.specs.inside.Sizes.{closed_sizes, table_form, tabled_size, IsTabledLength}
use Rattle.lut_stuff.specs.Tables.{distinct_above_0, table_bytes, table_size}
use Rattle.lut_stuff.proofs.Tabled.{distinct_some}
use Rattle.std.proofs.lemmas.Bool.{cases_lt, lt-ltb}
use Rattle.micro_block.specs.ChosenBlock as chosen_block
use Rattle.micro_block.specs.ChosenBlock.{WrittenForm, least_value, quantised_values, narrow_type, offset_bytes, written_form_bytes, forms, is_flat, is_stuffable, chosen_form, block_bytes}
use Rattle.micro_block.proofs.Fewest.{IsTaken, is_first_least}
use Rattle.micro_block.proofs.Steps.{by_sizes, sized}
use Rattle.micro_block.proofs.Written.{allowed_some}

sized_allowed : {A : Type 0} (size : A → ℕ) (b : Bool) (x : A) (n : ℕ) → size x ≡ n → allowed b n ≡ option_map size (allowed b x)
sized_allowed size true x n e = ap Some (sym e)
sized_allowed size false x n e = refl

and_false : (b : Bool) → (b && false) ≡ false
and_false true = refl
and_false false = refl

abbrev pub size_of : PixelType → ℕ → ℕ → List ℤ → WrittenForm → ℕ
size_of kind col step values form = length (written_form_bytes kind col step values form)

pub length_constant : (kind : PixelType) (col step : ℕ) (values : List ℤ) → size_of kind col step values chosen_block.constant ≡ 1 + bytes_of (narrow_type kind (least_value values))
unfolding written_form_bytes offset_bytes
length_constant kind col step values = let e = length-value_bytes (narrow_type kind (least_value values)) (least_value values) in omega (arith, e)

pub length_raw : (kind : PixelType) (col step : ℕ) (values : List ℤ) → size_of kind col step values chosen_block.raw ≡ 1 + length values * bytes_of kind
unfolding written_form_bytes
length_raw kind col step values = let e = length-values_bytes kind values in omega (arith, e)

length_simple : (kind : PixelType) (col step : ℕ) (values : List ℤ)
    → size_of kind col step values chosen_block.simple ≡ 1 + (bytes_of (narrow_type kind (least_value values)) + (head_size (length values) + stuffed_size (length values) (binary_digits (greatest_number (quantised_values step values)))))
unfolding written_form_bytes offset_bytes
length_simple kind col step values =
    let e = length-value_bytes (narrow_type kind (least_value values)) (least_value values) in
    let l = length-simple_bytes (quantised_values step values) in
    let n : length (quantised_values step values) ≡ length values = length-map values (quantised step (least_value values)) in
    let both : head_size (length (quantised_values step values)) + stuffed_size (length (quantised_values step values)) (width_of (quantised_values step values)) ≡ head_size (length values) + stuffed_size (length values) (width_of (quantised_values step values)) = ap (λ k. head_size k + stuffed_size k (width_of (quantised_values step values))) n in
    ap suc (length-append (offset_bytes kind (least_value values)) (simple_bytes (quantised_values step values)) ∙ ap (λ k. k + length (simple_bytes (quantised_values step values))) e ∙ ap (λ k. bytes_of (narrow_type kind (least_value values)) + k) (l ∙ both))
    ∙ (let t : suc (bytes_of (narrow_type kind (least_value values)) + (head_size (length values) + stuffed_size (length values) (width_of (quantised_values step values)))) ≡ 1 + (bytes_of (narrow_type kind (least_value values)) + (head_size (length values) + stuffed_size (length values) (width_of (quantised_values step values)))) = omega arith in t)

pub length_zero : (kind : PixelType) (col step : ℕ) (values : List ℤ) → size_of kind col step values chosen_block.zero ≡ 1
unfolding written_form_bytes
length_zero kind col step values = refl

length_table : (kind : PixelType) (col step : ℕ) (values : List ℤ) → size_of kind col step values chosen_block.table ≡ table_form kind (least_value values) (length (table_bytes (quantised_values step values)))
unfolding written_form_bytes offset_bytes
length_table kind col step values =
    let e = length-value_bytes (narrow_type kind (least_value values)) (least_value values) in
    ap suc (length-append (offset_bytes kind (least_value values)) (table_bytes (quantised_values step values)) ∙ ap (λ k. k + length (table_bytes (quantised_values step values))) e)
    ∙ (let t : suc (bytes_of (narrow_type kind (least_value values)) + length (table_bytes (quantised_values step values))) ≡ 1 + (bytes_of (narrow_type kind (least_value values)) + length (table_bytes (quantised_values step values))) = omega arith in t)

some_above : (g : ℕ) → not (nat_eq g 0) ≡ true → 0 < g
some_above g h = elim (cases_lt 0 g) [ inl some ↦ some | inr none ↦ absurd (zero_test g (let e : g ≡ 0 = omega (arith, none) in e) h) ]
  where
    zero_test : (g : ℕ) → g ≡ 0 → not (nat_eq g 0) ≡ true → ⊥
    zero_test g e h = let t : true ≡ false = sym h ∙ ap (λ k. not (nat_eq k 0)) e in cc

tabled_by : (size : WrittenForm → ℕ) (kind : PixelType) (m : ℤ) (len d : ℕ) (a b c : Bool) → size chosen_block.table ≡ table_form kind m len → (a ≡ true → nat_lt 0 d ≡ true)
    → option_map (table_form kind m) (if a && b then (if nat_lt 0 d && c then Some len else None) else None) ≡ option_map size (allowed (a && (b && c)) chosen_block.table)
tabled_by size kind m len d false b c e some = refl
tabled_by size kind m len d true false c e some = refl
tabled_by size kind m len d true true false e some = ap (λ t. option_map (table_form kind m) (if t && false then Some len else None)) (some refl)
tabled_by size kind m len d true true true e some = ap (λ t. option_map (table_form kind m) (if t && true then Some len else None)) (some refl) ∙ ap Some (sym e)

pub closed : (kind : PixelType) (col step : ℕ) (values : List ℤ) → closed_sizes kind (length values) (least_value values) (greatest_number (quantised_values step values)) (tabled_size step values) ≡ map (option_map (size_of kind col step values)) (forms step values)
closed kind col step values =
    let size = size_of kind col step values in
    λ i. sized_allowed size (is_flat step values && nat_eq (unsigned_abs (least_value values)) 0) chosen_block.zero 1 (length_zero kind col step values) i
    ∷ sized_allowed size (is_flat step values && nat_lt 0 (length values)) chosen_block.constant _ (length_constant kind col step values) i
    ∷ Some (sym (length_raw kind col step values) i)
    ∷ sized_allowed size (not (is_flat step values) && is_stuffable step values) chosen_block.simple _ (length_simple kind col step values) i
    ∷ tabled_by size kind (least_value values) (length (table_bytes (quantised_values step values))) (distinct_above_0 (quantised_values step values)) (not (is_flat step values)) (is_stuffable step values) (nat_le (distinct_above_0 (quantised_values step values)) 254)
    (length_table kind col step values) (λ t. lt-ltb 0 (distinct_above_0 (quantised_values step values)) (distinct_some (quantised_values step values) (some_above (greatest_number (quantised_values step values)) t))) i
    ∷ []

-- the form of the first least of the sizes is the chosen one
pub chosen_at : (kind : PixelType) (col step : ℕ) (values : List ℤ) (k n : ℕ) → IsFirstLeast (λ m. m) (closed_sizes kind (length values) (least_value values) (greatest_number (quantised_values step values)) (tabled_size step values)) k n
    → get_or (forms step values) k None ≡ Some (chosen_form kind col step values)
unfolding chosen_form
chosen_at kind col step values k n is =
    let on = subst (λ sizes. IsFirstLeast (λ m. m) sizes k n) (closed kind col step values) is in
    some_there (get_or (forms step values) k None) refl (sym (sized (size_of kind col step values) (forms step values) k) ∙ on.there) on
  where
    some_there : (c : Option WrittenForm) → get_or (forms step values) k None ≡ c → option_map (size_of kind col step values) (get_or (forms step values) k None) ≡ Some n
        → IsFirstLeast (λ m. m) (map (option_map (size_of kind col step values)) (forms step values)) k n
        → get_or (forms step values) k None ≡ Some (unwrap_or (first_least (size_of kind col step values) (forms step values)) chosen_block.raw)
    some_there None e there on = absurd (let t : None ≡ Some n = sym (ap (option_map (size_of kind col step values)) e) ∙ there in cc)
    some_there (Some form) e there on = e ∙ ap (λ c. Some (unwrap_or c chosen_block.raw)) (sym (by_sizes (size_of kind col step values) (forms step values) k n form e on))

-- and its length is that size
pub chosen_size : (kind : PixelType) (col step : ℕ) (values : List ℤ) (k n : ℕ) → IsFirstLeast (λ m. m) (closed_sizes kind (length values) (least_value values) (greatest_number (quantised_values step values)) (tabled_size step values)) k n
    → length (block_bytes kind col step values) ≡ n
unfolding block_bytes
chosen_size kind col step values k n is =
    let on = subst (λ sizes. IsFirstLeast (λ m. m) sizes k n) (closed kind col step values) is in
    let at = chosen_at kind col step values k n is in
    same_some (length (written_form_bytes kind col step values (chosen_form kind col step values))) n
    (sym (ap (option_map (size_of kind col step values)) at) ∙ sym (sized (size_of kind col step values) (forms step values) k) ∙ on.there)
  where
    same_some : (a b : ℕ) → Some a ≡ Some b → a ≡ b
    same_some a b e = cc

-- a table form that is no shorter than what is chosen of the others may be left out
longer_left_out : (kind : PixelType) (n most : ℕ) (least : ℤ) (m k p : ℕ) → p ≤ table_form kind least m
    → IsFirstLeast (λ m. m) (closed_sizes kind n least most None) k p → IsFirstLeast (λ m. m) (closed_sizes kind n least most (Some m)) k p
longer_left_out kind n most least m k p longer is = record { there = there_at k is.there; least = least_at; first = first_at }
  where
    there_at : (k : ℕ) → get_or (closed_sizes kind n least most None) k None ≡ Some p → get_or (closed_sizes kind n least most (Some m)) k None ≡ Some p
    there_at zero e = e
    there_at (suc zero) e = e
    there_at (suc (suc zero)) e = e
    there_at (suc (suc (suc zero))) e = e
    there_at (suc (suc (suc (suc zero)))) e = absurd (cc)
    there_at (suc (suc (suc (suc (suc k))))) e = absurd (cc)

    below : (k : ℕ) → get_or (closed_sizes kind n least most None) k None ≡ Some p → k < 4
    below zero e = omega arith
    below (suc zero) e = omega arith
    below (suc (suc zero)) e = omega arith
    below (suc (suc (suc zero))) e = omega arith
    below (suc (suc (suc (suc zero)))) e = absurd (cc)
    below (suc (suc (suc (suc (suc k))))) e = absurd (cc)

    least_at : (i y : ℕ) → get_or (closed_sizes kind n least most (Some m)) i None ≡ Some y → p ≤ y
    least_at zero y e = is.least 0 y e
    least_at (suc zero) y e = is.least 1 y e
    least_at (suc (suc zero)) y e = is.least 2 y e
    least_at (suc (suc (suc zero))) y e = is.least 3 y e
    least_at (suc (suc (suc (suc zero)))) y e = let same : table_form kind least m ≡ y = cc in omega (arith, same, longer)
    least_at (suc (suc (suc (suc (suc i))))) y e = absurd (cc)

    first_at : (i y : ℕ) → i < k → get_or (closed_sizes kind n least most (Some m)) i None ≡ Some y → p < y
    first_at zero y less e = is.first 0 y less e
    first_at (suc zero) y less e = is.first 1 y (omega (arith, less)) e
    first_at (suc (suc zero)) y less e = is.first 2 y (omega (arith, less)) e
    first_at (suc (suc (suc zero))) y less e = is.first 3 y (omega (arith, less)) e
    first_at (suc (suc (suc (suc i)))) y less e = absurd (let low = below k is.there in omega (arith, low, less))

-- and one that is shorter is chosen
shorter_taken : (kind : PixelType) (n most : ℕ) (least : ℤ) (m k p : ℕ) → table_form kind least m < p
    → IsFirstLeast (λ m. m) (closed_sizes kind n least most None) k p → IsFirstLeast (λ m. m) (closed_sizes kind n least most (Some m)) 4 (table_form kind least m)
shorter_taken kind n most least m k p shorter is = record { there = refl; least = least_at; first = first_at }
  where
    first_at : (i y : ℕ) → i < 4 → get_or (closed_sizes kind n least most (Some m)) i None ≡ Some y → table_form kind least m < y
    first_at zero y less e = let le = is.least 0 y e in omega (arith, le, shorter)
    first_at (suc zero) y less e = let le = is.least 1 y e in omega (arith, le, shorter)
    first_at (suc (suc zero)) y less e = let le = is.least 2 y e in omega (arith, le, shorter)
    first_at (suc (suc (suc zero))) y less e = let le = is.least 3 y e in omega (arith, le, shorter)
    first_at (suc (suc (suc (suc i)))) y less e = absurd (omega (arith, less))

    least_at : (i y : ℕ) → get_or (closed_sizes kind n least most (Some m)) i None ≡ Some y → table_form kind least m ≤ y
    least_at zero y e = let lt = first_at 0 y (omega arith) e in omega (arith, lt)
    least_at (suc zero) y e = let lt = first_at 1 y (omega arith) e in omega (arith, lt)
    least_at (suc (suc zero)) y e = let lt = first_at 2 y (omega arith) e in omega (arith, lt)
    least_at (suc (suc (suc zero))) y e = let lt = first_at 3 y (omega arith) e in omega (arith, lt)
    least_at (suc (suc (suc (suc zero)))) y e = let same : table_form kind least m ≡ y = cc in omega (arith, same)
    least_at (suc (suc (suc (suc (suc i))))) y e = absurd (cc)

-- so is one that is no shorter than the simple form
left_out : (kind : PixelType) (n most : ℕ) (least : ℤ) (tabled : Option ℕ) (k p : ℕ)
    → ((m : ℕ) → tabled ≡ Some m → ((not (nat_eq most 0) && nat_lt most (2 ^ 30)) ≡ true) × (head_size n + stuffed_size n (binary_digits most) ≤ m))
    → IsFirstLeast (λ m. m) (closed_sizes kind n least most None) k p → IsFirstLeast (λ m. m) (closed_sizes kind n least most tabled) k p
left_out kind n most least None k p longer is = is
left_out kind n most least (Some m) k p longer is = longer_left_out kind n most least m k p (let le = (longer m refl).1 in omega (arith, le, simple)) is
  where
    simple : p ≤ 1 + (bytes_of (narrow_type kind least) + (head_size n + stuffed_size n (binary_digits most)))
    simple = is.least 3 (1 + (bytes_of (narrow_type kind least) + (head_size n + stuffed_size n (binary_digits most)))) (ap (λ b. allowed b (1 + (bytes_of (narrow_type kind least) + (head_size n + stuffed_size n (binary_digits most))))) (longer m refl).0)

test_holds : (b : Bool) (t : Option ℕ) (m : ℕ) → (if b then t else None) ≡ Some m → b ≡ true
test_holds true t m e = refl
test_holds false t m e = absurd (cc)

-- the first least of the sizes that were found
firsts : (kind : PixelType) (step : ℕ) (values : List ℤ) (sizes : List (Option ℕ)) (tabled : Option ℕ) (k p : ℕ) → IsTabledLength step values tabled
    → sizes ≡ closed_sizes kind (length values) (least_value values) (greatest_number (quantised_values step values)) tabled → IsFirstLeast (λ m. m) sizes k p
    → IsFirstLeast (λ m. m) (closed_sizes kind (length values) (least_value values) (greatest_number (quantised_values step values)) (tabled_size step values)) k p
firsts kind step values sizes tabled k p (inl e) all is =
    subst (λ xs. IsFirstLeast (λ m. m) xs k p) (all ∙ ap (closed_sizes kind (length values) (least_value values) (greatest_number (quantised_values step values))) e) is
firsts kind step values sizes tabled k p (inr h) all is =
    left_out kind (length values) (greatest_number (quantised_values step values)) (least_value values) (tabled_size step values) k p
    (λ m e. (test_holds (not (is_flat step values) && is_stuffable step values) (table_size (quantised_values step values)) m e, h.1 m e))
    (subst (λ xs. IsFirstLeast (λ m. m) xs k p) (all ∙ ap (closed_sizes kind (length values) (least_value values) (greatest_number (quantised_values step values))) h.0) is)

-- the first least of the sizes, as it is found
pub fewest_is : (kind : PixelType) (n most : ℕ) (least : ℤ) (tabled : Option ℕ) (sizes : List (Option ℕ)) (first : Option (ℕ × ℕ)) (p : ℕ × ℕ) → sizes ≡ closed_sizes kind n least most tabled
    → MatchOption first ((i n : ℕ) → get_or sizes i None ≡ Some n → ⊥) (λ q. IsFirstLeast (λ m. m) sizes q.0 q.1) → p ≡ unwrap_or first (2, 0)
    → IsFirstLeast (λ m. m) (closed_sizes kind n least most tabled) p.0 p.1
fewest_is kind n most least tabled sizes None p all none e = absurd (none 2 (1 + n * bytes_of kind) (ap (λ xs. get_or xs 2 None) all))
fewest_is kind n most least tabled sizes (Some q) p all is e =
    subst (λ (r : ℕ × ℕ). IsFirstLeast (λ m. m) (closed_sizes kind n least most tabled) r.0 r.1) (sym e) (subst (λ xs. IsFirstLeast (λ m. m) xs q.0 q.1) all is)

-- the form at its place is the chosen one, and its size the length of the block
abbrev pub IsMade : PixelType → ℕ → ℕ → List ℤ → ℕ → ℕ → Type 0
IsMade kind col step values k p = (get_or (forms step values) k None ≡ Some (chosen_form kind col step values)) × (length (block_bytes kind col step values) ≡ p)

taken_by : (kind : PixelType) (col step : ℕ) (values : List ℤ) (k p : ℕ) → IsFirstLeast (λ m. m) (closed_sizes kind (length values) (least_value values) (greatest_number (quantised_values step values)) (tabled_size step values)) k p
    → IsMade kind col step values k p
taken_by kind col step values k p is = (chosen_at kind col step values k p is, chosen_size kind col step values k p is)

-- by what was found of the table form
pub taken_found : (kind : PixelType) (col step : ℕ) (values : List ℤ) (least : ℤ) (most : ℕ) (tabled : Option ℕ) (k p : ℕ)
    → least ≡ least_value values → most ≡ greatest_number (quantised_values step values) → IsTabledLength step values tabled
    → IsFirstLeast (λ m. m) (closed_sizes kind (length values) least most tabled) k p → IsMade kind col step values k p
taken_found kind col step values least most tabled k p least_is most_is tabled_is is =
    taken_by kind col step values k p (firsts kind step values (closed_sizes kind (length values) least most tabled) tabled k p tabled_is (λ i. closed_sizes kind (length values) (least_is i) (most_is i) tabled) is)

-- without a table, where none is chosen
pub taken_plain : (kind : PixelType) (col step : ℕ) (values : List ℤ) (least : ℤ) (most k p : ℕ)
    → least ≡ least_value values → most ≡ greatest_number (quantised_values step values) → (chosen_form kind col step values ≡ chosen_block.table → ⊥)
    → IsFirstLeast (λ m. m) (closed_sizes kind (length values) least most None) k p → IsMade kind col step values k p
taken_plain kind col step values least most k p least_is most_is plain is = by (tabled_size step values) refl
  where
    known : IsFirstLeast (λ m. m) (closed_sizes kind (length values) (least_value values) (greatest_number (quantised_values step values)) None) k p
    known = subst (λ (z : ℤ). IsFirstLeast (λ m. m) (closed_sizes kind (length values) z (greatest_number (quantised_values step values)) None) k p) least_is
        (subst (λ (g : ℕ). IsFirstLeast (λ m. m) (closed_sizes kind (length values) least g None) k p) most_is is)

    put : (t : Option ℕ) (j q : ℕ) → tabled_size step values ≡ t → IsFirstLeast (λ m. m) (closed_sizes kind (length values) (least_value values) (greatest_number (quantised_values step values)) t) j q
        → IsMade kind col step values j q
    put t j q e h = taken_by kind col step values j q (subst (λ (o : Option ℕ). IsFirstLeast (λ m. m) (closed_sizes kind (length values) (least_value values) (greatest_number (quantised_values step values)) o) j q) (sym e) h)

    by : (t : Option ℕ) → tabled_size step values ≡ t → IsMade kind col step values k p
    by None e = put None k p e known
    by (Some m) e = elim (cases_lt (table_form kind (least_value values) m) p) [
      | inl shorter ↦
          let t = put (Some m) 4 (table_form kind (least_value values) m) e (shorter_taken kind (length values) (greatest_number (quantised_values step values)) (least_value values) m k p shorter known) in
          absurd (plain (sym (allowed_some _ chosen_block.table (chosen_form kind col step values) t.0).1))
      | inr longer ↦ put (Some m) k p e (longer_left_out kind (length values) (greatest_number (quantised_values step values)) (least_value values) m k p longer known)
    ]

-- no chosen block is longer than the raw one
pub block_short : (kind : PixelType) (col step : ℕ) (values : List ℤ) → length (block_bytes kind col step values) ≤ 1 + length values * bytes_of kind
unfolding block_bytes chosen_form
block_short kind col step values = taken (first_least (size_of kind col step values) (forms step values)) (is_first_least (size_of kind col step values) (forms step values))
  where
    taken : (o : Option WrittenForm) → IsTaken (size_of kind col step values) (forms step values) o → length (written_form_bytes kind col step values (unwrap_or o chosen_block.raw)) ≤ 1 + length values * bytes_of kind
    taken None none = absurd (none 2 chosen_block.raw refl)
    taken (Some form) (k, is) = let le = is.least 2 chosen_block.raw refl in let raw = length_raw kind col step values in omega (arith, le, raw)
