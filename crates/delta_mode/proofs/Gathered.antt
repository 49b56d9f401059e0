-- The values of the valid ones among some pixels, one behind the other and each by how far it is above the type's least.
use Rattle.std.proofs.Common.{◌≡◌, ℕ, zero, suc, ℤ, pos, ◌+◌, ◌%◌, ◌<◌, Bool, true, false, cond, List, [], ◌∷◌, ◌++◌, length, get_or, map, refl, sym, ap, ◌∙◌, subst, arith, inl, inr, add-one}
use Rattle.std.specs.List.{filter, range_with_len}
use Rattle.std.proofs.lemmas.Bool.{cases_lt}
use Rattle.std.proofs.lemmas.Int.{ints}
use Rattle.std.proofs.lemmas.List.{get_or-append-add, get_or-map, get_or_append_left, get_or_past, length-append, length-map}
use Rattle.std.proofs.lemmas.List.Elements.{filter-append}
use Rattle.raster_cells.specs.declared.kind.PixelType.{PixelType}
use Rattle.raster_cells.specs.declared.kind.PixelType.TheVariants.{I8, U8}
use Rattle.raster_cells.specs.Distance.{distance_of}
use Rattle.raster_values.specs.Flat.{value_in, valid_from, values_among}
use Rattle.raster_cells.specs.PixelType.{InRange}
use Rattle.raster_values.specs.Raster.{Pixels, IsRaster}
use Rattle.delta_mode.specs.Symbols.{IsByteType, symbol_of}
use Rattle.delta_mode.specs.Deltas.{is_valid}
use Rattle.delta_mode.specs.inside.Pieces.{rank}
use Rattle.delta_mode.proofs.Marks.{value_in_range}
use Rattle.delta_mode.proofs.Numbers.{by_byte, symbol-is}
use Rattle.delta_mode.proofs.Pieces.{rank_below, rank_same, rank_split}
use Rattle.delta_mode.proofs.Predictors.{range_more}

-- ---- the numbers of the valid ones

one_more : (valid : ℕ → Bool) (k n : ℕ) → filter valid (range_with_len k (suc n)) ≡ filter valid (range_with_len k n) ++ cond (valid (k + n)) ((k + n) ∷ []) []
one_more valid k n = ap (λ m. filter valid (range_with_len k m)) (sym (add-one n)) ∙ ap (filter valid) (range_more k n) ∙ filter-append valid (range_with_len k n) ((k + n) ∷ [])

pub numbers_long : (valid : ℕ → Bool) (k n : ℕ) → length (filter valid (range_with_len k n)) ≡ rank (λ j. valid (k + j)) n
numbers_long valid k zero = refl
numbers_long valid k (suc n) =
    let before = numbers_long valid k n in
    ap length (one_more valid k n) ∙ length-append (filter valid (range_with_len k n)) (cond (valid (k + n)) ((k + n) ∷ []) [])
    ∙ elim (valid (k + n)) as (λ b. length (filter valid (range_with_len k n)) + length (cond b ((k + n) ∷ []) []) ≡ cond b (rank (λ j. valid (k + j)) n + 1) (rank (λ j. valid (k + j)) n)) [
      | true ↦ omega (arith, before)
      | false ↦ omega (arith, before)
    ]

pub rank_filter : (valid : ℕ → Bool) (n : ℕ) → length (filter valid (range_with_len 0 n)) ≡ rank valid n
rank_filter valid n = numbers_long valid 0 n ∙ rank_same (λ j. valid (0 + j)) valid n (λ j lt. ap valid (let e : 0 + j ≡ j = omega arith in e))

numbers_at : (valid : ℕ → Bool) (k n i : ℕ) → i < n → valid (k + i) ≡ true → get_or (filter valid (range_with_len k n)) (rank (λ j. valid (k + j)) i) 0 ≡ k + i
numbers_at valid k zero i lt on = absurd (omega (arith, lt))
numbers_at valid k (suc n) i lt on =
    let mark : ℕ → Bool = λ (j : ℕ). valid (k + j) in
    let front = filter valid (range_with_len k n) in
    let long = numbers_long valid k n in
    ap (λ (xs : List ℕ). get_or xs (rank mark i) 0) (one_more valid k n) ∙ elim (cases_lt i n) [
      | inl below ↦
          let less = rank_below mark i n below on in
          get_or_append_left front (cond (valid (k + n)) ((k + n) ∷ []) []) 0 (rank mark i) (omega (arith, less, long)) ∙ numbers_at valid k n i below on
      | inr from ↦
          let is : i ≡ n = omega (arith, from, lt) in
          let at : rank mark i ≡ length front + 0 = ap (rank mark) is ∙ sym long ∙ (let e : length front ≡ length front + 0 = omega arith in e) in
          ap (λ j. get_or (front ++ cond (valid (k + n)) ((k + n) ∷ []) []) j 0) at ∙ get_or-append-add front (cond (valid (k + n)) ((k + n) ∷ []) []) 0 0
          ∙ ap (λ b. get_or (cond b ((k + n) ∷ []) []) 0 0) (ap (λ j. valid (k + j)) (sym is) ∙ on) ∙ ap (λ j. k + j) (sym is)
    ]

-- ---- their distances

abbrev pub distances : Pixels → ℕ → ℕ → ℕ → List ℕ
distances r d place n = map (distance_of r.kind) (values_among r d place n)

pub many : (r : Pixels) (d place n : ℕ) → length (distances r d place n) ≡ rank (λ j. is_valid r (place + j)) n
many r d place n = length-map (values_among r d place n) (distance_of r.kind) ∙ length-map (valid_from r place n) (value_in r d) ∙ numbers_long (is_valid r) place n

-- as many as pixels are valid
pub rank_more : (r : Pixels) (place n : ℕ) → rank (is_valid r) (place + n) ≡ rank (is_valid r) place + length (valid_from r place n)
rank_more r place n = rank_split (is_valid r) place n ∙ ap (λ m. rank (is_valid r) place + m) (sym (numbers_long (is_valid r) place n))

pub distance_at : (r : Pixels) (d place n i : ℕ) → i < n → is_valid r (place + i) ≡ true
    → get_or (distances r d place n) (rank (λ j. is_valid r (place + j)) i) 0 ≡ distance_of r.kind (value_in r d (place + i))
distance_at r d place n i lt on =
    let at = rank (λ j. is_valid r (place + j)) i in
    let below = rank_below (λ j. is_valid r (place + j)) i n lt on in
    let numbers = numbers_long (is_valid r) place n in
    let values = length-map (valid_from r place n) (value_in r d) in
    get_or-map (distance_of r.kind) (values_among r d place n) at (pos 0) 0 (omega (arith, below, numbers, values))
    ∙ ap (distance_of r.kind) (get_or-map (value_in r d) (valid_from r place n) at 0 (pos 0) (omega (arith, below, numbers)) ∙ ap (value_in r d) (numbers_at (is_valid r) place n i lt on))

-- ---- distances as bytes

pub distance_small : (kind : PixelType) (v : ℤ) → IsByteType kind → InRange kind v → distance_of kind v < 256
distance_small kind v byte = by_byte (λ k. InRange k v → distance_of k v < 256) (λ h. omega (arith, ints, h.0, h.1)) (λ h. omega (arith, ints, h.0, h.1)) kind byte

each_small : (r : Pixels) (d : ℕ) (numbers : List ℕ) (j : ℕ) → IsRaster r → IsByteType r.kind → get_or (map (distance_of r.kind) (map (value_in r d) numbers)) j 0 < 256
each_small r d numbers j sound byte =
    let vs = map (value_in r d) numbers in
    let values = length-map numbers (value_in r d) in
    elim (cases_lt j (length vs)) [
      | inl lt ↦
          subst (λ n. n < 256) (sym (get_or-map (distance_of r.kind) vs j (pos 0) 0 lt ∙ ap (distance_of r.kind) (get_or-map (value_in r d) numbers j 0 (pos 0) (omega (arith, lt, values)))))
          (distance_small r.kind (value_in r d (get_or numbers j 0)) byte (value_in_range r d (get_or numbers j 0) sound))
      | inr ge ↦ let long = length-map vs (distance_of r.kind) in subst (λ n. n < 256) (sym (get_or_past (map (distance_of r.kind) vs) j 0 (omega (arith, ge, long)))) (omega arith)
    ]

pub distances_small : (r : Pixels) (d place n j : ℕ) → IsRaster r → IsByteType r.kind → get_or (distances r d place n) j 0 < 256
distances_small r d place n j = each_small r d (valid_from r place n) j

-- a value's symbol is its distance
pub own_symbol : (kind : PixelType) (v : ℤ) → IsByteType kind → InRange kind v → symbol_of kind v ≡ distance_of kind v
own_symbol kind v byte = by_byte (λ k. InRange k v → symbol_of k v ≡ distance_of k v)
    (λ h.
    let m = distance_of I8 v + 512 in
    symbol-is I8 v m (omega (arith, ints, h.0, h.1)) ∙ (let low : distance_of I8 v < 256 = omega (arith, ints, h.0, h.1) in let f : m % 256 ≡ distance_of I8 v = omega (arith, low) in f))
    (λ h.
    let m = distance_of U8 v + 512 in
    symbol-is U8 v m (omega (arith, ints, h.0, h.1)) ∙ (let low : distance_of U8 v < 256 = omega (arith, ints, h.0, h.1) in let f : m % 256 ≡ distance_of U8 v = omega (arith, low) in f))
    kind byte
