-- Rasters with given symbols.
use Rattle.std.proofs.Common.{◌≡◌, ℕ, zero, suc, ℤ, pos, negsuc, ◌+ℤ◌, ◌-ℤ◌, ◌+◌, ◌*◌, ◌%◌, ◌<◌, Bool, true, false, cond, List, [], ◌∷◌, ◌++◌, length, get_or, map, nat_eq, refl, sym, ap, ◌∙◌, subst, arith, inl, inr}
use Rattle.std.specs.Prelude.{is_some, None, Option, All, unsigned_abs}
use Rattle.std.specs.List.{filter, range_with_len, count_by}
use Rattle.std.specs.Int.{int_rem_euclid}
use Rattle.std.proofs.lemmas.Bool.{cases_Bool, cases_lt}
use Rattle.std.proofs.lemmas.Bool.Decides.{nat_tests}
use Rattle.std.proofs.lemmas.Int.{ints, int_rem_euclid_is}
use Rattle.std.proofs.lemmas.List.{length-map, get_or-map, get_or_past, get_or_append_left, get_or-append-add, length-append, ext_get_or}
use Rattle.std.proofs.lemmas.List.Elements.{All-from_get_or, All-get_or}
use Rattle.std.proofs.lemmas.List.Sums.{sum_by-cons}
use Rattle.raster_cells.specs.declared.kind.PixelType.{PixelType}
use Rattle.raster_cells.specs.PixelType.{InRange}
use Rattle.raster_values.specs.Raster.{Pixels, IsRaster, values_of, valid_count}
use Rattle.raster_values.specs.Places.{SameShape}
use Rattle.raster_values.specs.Block.{SameMask}
use Rattle.raster_values.specs.Flat.{value_in, marks_of, revalued, pixels_with}
use Rattle.raster_values.proofs.Revalued.{may_change, in_order_there}
use Rattle.raster_values.proofs.Deep.{raster_deep, length-values_of}
use Rattle.delta_mode.specs.Symbols.{IsByteType, bias, symbol_of}
use Rattle.delta_mode.specs.Deltas.{predictor, delta, is_valid, AreDeltas}
use Rattle.delta_mode.specs.Laws.{AreSymbols, DepthIsThere, RasterIsThere, PlainIsThere, DeltasAreSymbols, PlainAreSymbols}
use Rattle.delta_mode.specs.inside.Pieces.{rank, value_of_place, AreCoded}
use Rattle.delta_mode.proofs.Predictors.{predictor_has, predictor_same, from-is}
use Rattle.delta_mode.proofs.Marks.{zero_in_range, value_in_range, place_below, same_mark}
use Rattle.delta_mode.proofs.Kernels.{small, small_bias, symbol-by, value_symbol}
use Rattle.delta_mode.proofs.Pieces.{rank_below}
use Rattle.delta_mode.proofs.WholeDepth.{rank_all, coded_same, coded_all}
use Rattle.delta_mode.proofs.Numbers.{by_byte, symbol-is}
use Rattle.delta_mode.proofs.SymbolLaws.{deltas_as, none_value}
use Rattle.delta_mode.proofs.Gathered.{rank_filter}

-- ---- one value by its symbol

-- the value whose number less a predictor has a symbol
value_for : PixelType → ℕ → ℤ → ℤ
value_for kind s p = int_rem_euclid (pos s +ℤ p) (pos 256) -ℤ pos (bias kind)

for_symbol : (kind : PixelType) (s : ℕ) (p : ℤ) → IsByteType kind → s < 256 → InRange kind p → symbol_of kind (value_for kind s p -ℤ p) ≡ s
unfolding value_for
for_symbol kind s p byte lt h =
    symbol-by kind (int_rem_euclid (pos s +ℤ p) (pos 256) -ℤ pos (bias kind) -ℤ p)
    ∙ value_symbol (pos (bias kind)) p (int_rem_euclid (pos s +ℤ p) (pos 256)) s lt (small_bias kind) (small kind p byte h) refl

in_type : (kind : PixelType) (z : ℤ) (m : ℕ) → IsByteType kind → z ≡ pos (m % 256) → InRange kind (z -ℤ pos (bias kind))
in_type kind z m byte = by_byte (λ k. z ≡ pos (m % 256) → InRange k (z -ℤ pos (bias k))) (λ e. (omega (arith, ints, e), omega (arith, ints, e))) (λ e. (omega (arith, ints, e), omega (arith, ints, e))) kind byte

for_range : (kind : PixelType) (s : ℕ) (p : ℤ) → IsByteType kind → InRange kind p → InRange kind (value_for kind s p)
unfolding value_for
for_range kind s p byte h =
    let low = small kind p byte h in
    let m = unsigned_abs ((pos s +ℤ p) +ℤ pos (2 * 256)) in
    let is_m : (pos s +ℤ p) +ℤ pos (2 * 256) ≡ pos m = omega (arith, ints, low.0) in
    in_type kind (int_rem_euclid (pos s +ℤ p) (pos 256)) m byte (int_rem_euclid_is (pos s +ℤ p) (pos 256) 256 2 m (omega arith) refl is_m)

-- ---- all values by their symbols

solved : PixelType → ℕ → (ℕ → Bool) → List ℕ → ℕ → List ℤ
solved kind cols valid symbols zero = []
solved kind cols valid symbols (suc n) =
    solved kind cols valid symbols n ++ value_for kind (get_or symbols (rank valid n) 0) (predictor cols valid (value_of_place (solved kind cols valid symbols n)) n) ∷ []

next : PixelType → ℕ → (ℕ → Bool) → List ℕ → ℕ → ℤ
next kind cols valid symbols n = value_for kind (get_or symbols (rank valid n) 0) (predictor cols valid (value_of_place (solved kind cols valid symbols n)) n)

solved_long : (kind : PixelType) (cols : ℕ) (valid : ℕ → Bool) (symbols : List ℕ) (n : ℕ) → length (solved kind cols valid symbols n) ≡ n
unfolding solved next
solved_long kind cols valid symbols zero = refl
solved_long kind cols valid symbols (suc n) =
    let before = solved_long kind cols valid symbols n in
    length-append (solved kind cols valid symbols n) (next kind cols valid symbols n ∷ []) ∙ (let e : length (solved kind cols valid symbols n) + 1 ≡ suc n = omega (arith, before) in e)

solved_at : (kind : PixelType) (cols : ℕ) (valid : ℕ → Bool) (symbols : List ℕ) (n k : ℕ) → k < n → value_of_place (solved kind cols valid symbols n) k ≡ next kind cols valid symbols k
unfolding solved next
solved_at kind cols valid symbols zero k lt = absurd (omega (arith, lt))
solved_at kind cols valid symbols (suc n) k lt =
    let long = solved_long kind cols valid symbols n in
    let xs = solved kind cols valid symbols n in
    let x = next kind cols valid symbols n in
    elim (cases_lt k n) [
      | inl below ↦ get_or_append_left xs (x ∷ []) (pos 0) k (omega (arith, below, long)) ∙ solved_at kind cols valid symbols n k below
      | inr above ↦
          let is : k ≡ length xs + 0 = omega (arith, lt, above, long) in
          let at : k ≡ n = omega (arith, lt, above) in
          ap (λ m. get_or (xs ++ x ∷ []) m (pos 0)) is ∙ get_or-append-add xs (x ∷ []) 0 (pos 0) ∙ ap (next kind cols valid symbols) (sym at)
    ]

solved_fits : (kind : PixelType) (cols : ℕ) (valid : ℕ → Bool) (symbols : List ℕ) (n k : ℕ) → IsByteType kind → 0 < cols → InRange kind (value_of_place (solved kind cols valid symbols n) k)
unfolding solved next
solved_fits kind cols valid symbols zero k byte some = zero_in_range kind
solved_fits kind cols valid symbols (suc n) k byte some = elim (cases_lt k (suc n)) [
  | inl lt ↦
      subst (InRange kind) (sym (solved_at kind cols valid symbols (suc n) k lt))
      (elim (cases_lt k n) [
        | inl below ↦ subst (InRange kind) (solved_at kind cols valid symbols n k below) (solved_fits kind cols valid symbols n k byte some)
        | inr above ↦
            let at : n ≡ k = omega (arith, lt, above) in
            subst (λ m. InRange kind (next kind cols valid symbols m)) at
            (for_range kind (get_or symbols (rank valid n) 0) (predictor cols valid (value_of_place (solved kind cols valid symbols n)) n) byte
            (predictor_has (InRange kind) cols valid (value_of_place (solved kind cols valid symbols n)) n some (zero_in_range kind) (λ j below. solved_fits kind cols valid symbols n j byte some)))
      ])
  | inr past ↦ subst (InRange kind) (sym (get_or_past (solved kind cols valid symbols (suc n)) k (pos 0) (omega (arith, past, solved_long kind cols valid symbols (suc n))))) (zero_in_range kind)
]

-- they have the symbols
solved_coded : (kind : PixelType) (cols : ℕ) (valid : ℕ → Bool) (symbols : List ℕ) (n : ℕ) → IsByteType kind → 0 < cols → length symbols ≡ rank valid n → All (λ s. s < 256) symbols
    → AreCoded kind cols valid (value_of_place (solved kind cols valid symbols n)) 0 n symbols
unfolding next
solved_coded kind cols valid symbols n byte some long low = record {
  each = λ k from lt on.
      let v = value_of_place (solved kind cols valid symbols n) in
      let w = value_of_place (solved kind cols valid symbols k) in
      let s = get_or symbols (rank valid k) 0 in
      let room : rank valid k < length symbols = let below = rank_below valid k n lt on in omega (arith, below, long) in
      let same : predictor cols valid v k ≡ predictor cols valid w k =
      predictor_same cols valid v w k some (λ j below _. solved_at kind cols valid symbols n j (omega (arith, below, lt)) ∙ sym (solved_at kind cols valid symbols k j below)) in
      (λ i. symbol_of kind (solved_at kind cols valid symbols n k lt i -ℤ same i))
      ∙ for_symbol kind s (predictor cols valid w k) byte (All-get_or (λ x. x < 256) symbols (rank valid k) 0 room low)
      (predictor_has (InRange kind) cols valid w k some (zero_in_range kind) (λ j below. solved_fits kind cols valid symbols k j byte some));
}

-- ---- rasters with other values

valid_of : (r : Pixels) (k : ℕ) → k < length r.pixels → get_or (marks_of r) k false ≡ is_valid r k
valid_of r k lt = get_or-map is_some r.pixels k None false lt

mask_from_marks : (r s : Pixels) → IsRaster r → IsRaster s → SameShape r s → marks_of s ≡ marks_of r → SameMask r s
mask_from_marks r s hr hs shape marks = record {
  shape = shape;
  places = λ i j h.
      let low = place_below i j r.rows r.cols h.0 h.1 in
      let size : r.rows * r.cols ≡ s.rows * s.cols = λ t. shape.rows t * shape.cols t in
      ap (λ c. is_valid s (i * c + j)) (sym shape.cols) ∙ sym (valid_of s (i * r.cols + j) (omega (arith, low, hs.places, size)))
      ∙ ap (λ (ms : List Bool). get_or ms (i * r.cols + j) false) marks ∙ valid_of r (i * r.cols + j) (omega (arith, low, hr.places));
}

-- a raster of which a depth has the values that were found
has_depth : (r s : Pixels) (d : ℕ) (symbols : List ℕ) → IsRaster r → IsRaster s → IsByteType r.kind → SameMask r s → AreSymbols (valid_count r) symbols
    → ((k : ℕ) → k < r.rows * r.cols → is_valid r k ≡ true → value_in s d k ≡ value_of_place (solved r.kind r.cols (is_valid r) symbols (r.rows * r.cols)) k) → AreDeltas s d symbols
has_depth r s d symbols hr hs byte same h values =
    let n = r.rows * r.cols in
    let some = hr.shape.cols_above in
    let long : length symbols ≡ rank (is_valid r) n = h.0 ∙ sym (rank_all r hr) in
    let coded = solved_coded r.kind r.cols (is_valid r) symbols n byte some long h.1 in
    coded_all r.kind r.cols (is_valid r) (value_in s d) symbols n long (coded_same r.kind r.cols (is_valid r) (value_of_place (solved r.kind r.cols (is_valid r) symbols n)) (value_in s d) n symbols some values coded)
    ∙ deltas_as r s d hr hs same

pub raster_there : RasterIsThere
raster_there r symbols hr byte h =
    let n = r.rows * r.cols in
    let some = hr.shape.cols_above in
    let g : ℕ → ℕ → ℤ → ℤ = λ (k : ℕ) (d : ℕ) (v : ℤ). value_of_place (solved r.kind r.cols (is_valid r) (symbols d) n) k in
    let s = revalued r g in
    let c = may_change r g hr (λ k d lt on low. solved_fits r.kind r.cols (is_valid r) (symbols d) n k byte some) in
    let same = mask_from_marks r s hr c.raster c.shape c.marks in (
      s,
      (
        c.raster,
        (
          same,
          λ d low.
              has_depth r s d (symbols d) hr c.raster byte same (h d low) (λ k lt on. c.values k d (omega (arith, lt, hr.places)) (valid_of r k (omega (arith, lt, hr.places)) ∙ on) low),
        ),
      ),
    )

pub depth_there : DepthIsThere
depth_there r d symbols hr byte deep h =
    let n = r.rows * r.cols in
    let some = hr.shape.cols_above in
    let found : ℕ → ℤ = λ (k : ℕ). value_of_place (solved r.kind r.cols (is_valid r) symbols n) k in
    let g : ℕ → ℕ → ℤ → ℤ = λ (k : ℕ) (e : ℕ) (v : ℤ). cond (nat_eq e d) (found k) v in
    let s = revalued r g in
    let c = may_change r g hr (λ k e lt on low.
    elim (nat_eq e d) as (λ b. InRange r.kind (cond b (found k) (value_in r e k))) [
      | true ↦ solved_fits r.kind r.cols (is_valid r) symbols n k byte some
      | false ↦ value_in_range r e k hr
    ]) in
    let same = mask_from_marks r s hr c.raster c.shape c.marks in
    let at : (k e : ℕ) → k < n → is_valid r k ≡ true → e < r.depth → value_in s e k ≡ cond (nat_eq e d) (found k) (value_in r e k) =
    λ (k : ℕ) (e : ℕ) (lt : k < n) (on : is_valid r k ≡ true) (low : e < r.depth). c.values k e (omega (arith, lt, hr.places)) (valid_of r k (omega (arith, lt, hr.places)) ∙ on) low in
    let is_same : nat_eq d d ≡ true = grind (arith, nat_tests) in (
      s,
      (
        c.raster,
        record {
          same = same;
          taken = has_depth r s d symbols hr c.raster byte same h (λ k lt on. at k d lt on deep ∙ ap (λ b. cond b (found k) (value_in r d k)) is_same);
          rest = λ k e lt low other.
              let no_ : nat_eq e d ≡ false = other_number e d other in
              elim (cases_Bool (is_valid r k)) [
                | inl on ↦ at k e lt on low ∙ ap (λ b. cond b (found k) (value_in r e k)) no_
                | inr off ↦ none_value (get_or s.pixels k None) e (same_mark r s k same lt ∙ off) ∙ sym (none_value (get_or r.pixels k None) e off)
              ];
        },
      ),
    )
  where
    other_number : (a b : ℕ) → (a ≡ b → ⊥) → nat_eq a b ≡ false
    other_number a b ne = grind (arith, nat_tests, ne)

-- ---- plain symbols

-- the number of the type that has this symbol
abbrev symbol_number : PixelType → ℕ → ℤ
symbol_number kind symbol = pos symbol -ℤ pos (bias kind)

number_symbol : (kind : PixelType) (s : ℕ) → IsByteType kind → s < 256 → symbol_of kind (symbol_number kind s) ≡ s
number_symbol kind s byte lt =
    let e : ((pos s -ℤ pos (bias kind)) +ℤ pos (bias kind)) +ℤ pos (2 * 256) ≡ pos (s + 512) = omega (arith, ints) in
    symbol-is kind (pos s -ℤ pos (bias kind)) (s + 512) e ∙ (let f : (s + 512) % 256 ≡ s = omega (arith, lt) in f)

number_fits : (kind : PixelType) (s : ℕ) → IsByteType kind → s < 256 → InRange kind (symbol_number kind s)
number_fits kind s byte lt = in_type kind (pos s) s byte (ap pos (let f : s ≡ s % 256 = omega (arith, lt) in f))

count_marks : (ps : List (Option (List ℤ))) → count_by (λ m. m) (map is_some ps) ≡ count_by is_some ps
count_marks [] = refl
count_marks (p ∷ ps) =
    sum_by-cons (λ m. cond m 1 0) (is_some p) (map is_some ps) ∙ ap (λ n. cond (is_some p) 1 0 + n) (count_marks ps) ∙ sym (sum_by-cons (λ (q : Option (List ℤ)). cond (is_some q) 1 0) p ps)

pub plain_there : PlainIsThere
plain_there r symbols hr byte h =
    let marks = marks_of r in
    let values = map (symbol_number r.kind) symbols in
    let long : length marks ≡ r.rows * r.cols = length-map r.pixels is_some ∙ hr.places in
    let long_values = length-map symbols (symbol_number r.kind) in
    let fits : All (InRange r.kind) values = All-from_get_or (InRange r.kind) values (pos 0) (λ i lt.
    let low : i < length symbols = omega (arith, lt, long_values) in
    subst (InRange r.kind) (sym (get_or-map (symbol_number r.kind) symbols i 0 (pos 0) low)) (number_fits r.kind (get_or symbols i 0) byte (All-get_or (λ x. x < 256) symbols i 0 low h.1))) in
    let there = in_order_there r.kind r.rows r.cols r.depth marks values hr.shape long fits (long_values ∙ h.0 ∙ ap (λ n. n * r.depth) (sym (count_marks r.pixels))) in
    let s : Pixels = record { kind = r.kind; rows = r.rows; cols = r.cols; depth = r.depth; pixels = pixels_with r.depth marks values } in
    let same = mask_from_marks r s hr there.raster (record { kind = refl; rows = refl; cols = refl; depth = refl }) there.has_marks in
    let back : map (symbol_of r.kind) values ≡ symbols =
    ext_get_or 0 (map (symbol_of r.kind) values) symbols (length-map values (symbol_of r.kind) ∙ long_values) (λ i lt.
    let low : i < length symbols = omega (arith, lt, length-map values (symbol_of r.kind), long_values) in
    get_or-map (symbol_of r.kind) values i (pos 0) 0 (omega (arith, low, long_values)) ∙ ap (symbol_of r.kind) (get_or-map (symbol_number r.kind) symbols i 0 (pos 0) low)
    ∙ number_symbol r.kind (get_or symbols i 0) byte (All-get_or (λ x. x < 256) symbols i 0 low h.1)) in
    (s, (there.raster, record { same = same; taken = sym (ap (map (symbol_of r.kind)) there.has_values ∙ back) }))

-- ---- symbols are bytes

byte_of : (z : ℤ) → unsigned_abs (int_rem_euclid z (pos 256)) < 256
byte_of (pos a) = omega arith
byte_of (negsuc a) = omega arith

symbol_low : (kind : PixelType) (z : ℤ) → symbol_of kind z < 256
unfolding symbol_of
symbol_low kind z = byte_of (z +ℤ pos (bias kind))

map_low : {X : Type 0} (f : X → ℕ) (xs : List X) (x : X) → ((y : X) → f y < 256) → All (λ n. n < 256) (map f xs)
map_low f xs x low = All-from_get_or (λ n. n < 256) (map f xs) 0 (λ i lt. subst (λ n. n < 256) (sym (get_or-map f xs i x 0 (omega (arith, lt, length-map xs f)))) (low (get_or xs i x)))

pub deltas_low : DeltasAreSymbols
deltas_low r d symbols hr e =
    let n = r.rows * r.cols in
    let is = from-is r.kind r.cols (is_valid r) (value_in r d) 0 n in
    let f = delta r.kind r.cols (is_valid r) (value_in r d) in
    let ks = filter (is_valid r) (range_with_len 0 n) in
    (ap length (e ∙ is) ∙ length-map ks f ∙ rank_filter (is_valid r) n ∙ rank_all r hr, subst (All (λ s. s < 256)) (sym (e ∙ is)) (map_low f ks 0 (λ k. symbol_low r.kind _)))

pub plain_low : PlainAreSymbols
plain_low r symbols hr e =
    (ap length e ∙ length-map (values_of r.pixels) (symbol_of r.kind) ∙ length-values_of r.depth r.pixels (raster_deep r hr), subst (All (λ s. s < 256)) (sym e) (map_low (symbol_of r.kind) (values_of r.pixels) (pos 0) (symbol_low r.kind)))
