-- Symbols have one list of values, and one raster.
use Rattle.std.proofs.Common.{◌≡◌, ℕ, zero, suc, ℤ, pos, negsuc, ◌+ℤ◌, ◌-ℤ◌, ◌≤ℤ◌, ◌+◌, ◌*◌, ◌<◌, ◌≤◌, Bool, true, false, List, [], length, map, get_or, Option, Some, None, refl, sym, ap, ◌∙◌, subst, arith, inl, inr}
use Rattle.std.specs.Prelude.{is_some, unwrap_or, unsigned_abs, All}
use Rattle.std.specs.List.{filter, range_with_len}
use Rattle.std.proofs.lemmas.Bool.{cases_lt, cases_Bool}
use Rattle.std.proofs.lemmas.Int.{ints}
use Rattle.std.proofs.lemmas.List.{ext_get_or, length-map, get_or-map}
use Rattle.raster_cells.specs.declared.kind.PixelType.{PixelType}
use Rattle.raster_cells.specs.declared.kind.PixelType.TheVariants.{I8, U8}
use Rattle.raster_cells.specs.PixelType.{InRange}
use Rattle.raster_values.specs.Raster.{Pixels, IsRaster, values_of}
use Rattle.raster_values.specs.Block.{SameMask}
use Rattle.raster_values.specs.Flat.{value_in}
use Rattle.raster_cells.proofs.Every.{Every, map_same, filter_every, range_every}
use Rattle.raster_values.proofs.Same.{same_raster}
use Rattle.raster_values.proofs.Deep.{AreDeep, raster_deep, pixels_once, values_in_range}
use Rattle.delta_mode.specs.Symbols.{IsByteType, bias, symbol_of}
use Rattle.delta_mode.specs.Deltas.{predictor, delta, deltas_from, is_valid}
use Rattle.delta_mode.specs.Laws.{OneDepth, OneRaster, OnePlain}
use Rattle.delta_mode.proofs.Numbers.{by_byte, symbol-is, lifted, same_residue}
use Rattle.delta_mode.proofs.Predictors.{predictor_has, predictor_same, from-is}
use Rattle.delta_mode.proofs.Marks.{value_in_range, zero_in_range, place_below, same_marks}

far : (a p least greatest : ℤ) → negsuc 127 ≤ℤ least → greatest ≤ℤ pos 255 → least ≤ℤ a → p ≤ℤ greatest → negsuc 511 ≤ℤ (a -ℤ p)
far a p least greatest l g la gp = omega (arith, ints)

joined : (z : ℤ) (b m : ℕ) → (z +ℤ pos b) +ℤ pos (2 * 256) ≡ pos m → z +ℤ pos (b + 512) ≡ pos m
joined z b m e = omega (arith, ints)

-- numbers of one range of 256 that have one symbol, less a predictor of the range, are equal
once : (kind : PixelType) (a b p least : ℤ) → negsuc 127 ≤ℤ least → (least +ℤ pos 255) ≤ℤ pos 255 → (least ≤ℤ a) × (a ≤ℤ (least +ℤ pos 255)) → (least ≤ℤ b) × (b ≤ℤ (least +ℤ pos 255)) → p ≤ℤ (least +ℤ pos 255)
    → symbol_of kind (a -ℤ p) ≡ symbol_of kind (b -ℤ p) → a ≡ b
once kind a b p least low high ra rb rp e =
    let k = bias kind in
    let m = unsigned_abs ((a -ℤ p) +ℤ pos (k + 512)) in
    let n = unsigned_abs ((b -ℤ p) +ℤ pos (k + 512)) in
    let ea = lifted (a -ℤ p) k (far a p least (least +ℤ pos 255) low high ra.0 rp) in
    let eb = lifted (b -ℤ p) k (far b p least (least +ℤ pos 255) low high rb.0 rp) in
    same_residue a b p (k + 512) m n least (joined (a -ℤ p) k m ea) (joined (b -ℤ p) k n eb) (sym (symbol-is kind (a -ℤ p) m ea) ∙ e ∙ symbol-is kind (b -ℤ p) n eb)
    ra.0 ra.1 rb.0 rb.1

-- so are those of a type of bytes
pub value_once : (kind : PixelType) (a b p : ℤ) → IsByteType kind → InRange kind a → InRange kind b → InRange kind p → symbol_of kind (a -ℤ p) ≡ symbol_of kind (b -ℤ p) → a ≡ b
value_once kind a b p byte = by_byte (λ k. InRange k a → InRange k b → InRange k p → symbol_of k (a -ℤ p) ≡ symbol_of k (b -ℤ p) → a ≡ b)
    (λ ra rb rp. once I8 a b p (negsuc 127) (omega arith) (omega arith) ra rb rp.1) (λ ra rb rp. once U8 a b p (pos 0) (omega arith) (omega arith) ra rb rp.1) kind byte

-- ---- one depth

one_below : (kind : PixelType) (cols : ℕ) (valid : ℕ → Bool) (v w : ℕ → ℤ) (n : ℕ) → IsByteType kind → 0 < cols → ((k : ℕ) → InRange kind (v k)) → ((k : ℕ) → InRange kind (w k))
    → deltas_from kind cols valid v 0 n ≡ deltas_from kind cols valid w 0 n → (m : ℕ) → m ≤ n → (k : ℕ) → k < m → valid k ≡ true → v k ≡ w k
one_below kind cols valid v w n byte some rv rw_ e zero le k lt yes_ = absurd (omega arith)
one_below kind cols valid v w n byte some rv rw_ e (suc m) le k lt yes_ = elim (cases_lt k m) [
  | inl before ↦ one_below kind cols valid v w n byte some rv rw_ e m (omega arith) k before yes_
  | inr at ↦
      let is : k ≡ m = omega arith in
      let earlier : (j : ℕ) → j < k → valid j ≡ true → v j ≡ w j = λ (j : ℕ) (j_lt : j < k) (j_yes : valid j ≡ true). one_below kind cols valid v w n byte some rv rw_ e m (omega arith) j (omega arith) j_yes in
      let each : Every (λ x. valid x ≡ true → delta kind cols valid v x ≡ delta kind cols valid w x) (range_with_len 0 n) =
      filter_every (λ x. delta kind cols valid v x ≡ delta kind cols valid w x) valid (range_with_len 0 n)
      (map_same (delta kind cols valid v) (delta kind cols valid w) (filter valid (range_with_len 0 n)) (sym (from-is kind cols valid v 0 n) ∙ e ∙ from-is kind cols valid w 0 n)) in
      let here : delta kind cols valid v k ≡ delta kind cols valid w k =
      range_every (λ x. valid x ≡ true → delta kind cols valid v x ≡ delta kind cols valid w x) 0 n k each (omega arith) (omega arith) yes_ in
      let same : predictor cols valid v k ≡ predictor cols valid w k = predictor_same cols valid v w k some earlier in
      value_once kind (v k) (w k) (predictor cols valid v k) byte (rv k) (rw_ k) (predictor_has (InRange kind) cols valid v k some (zero_in_range kind) (λ j j_lt. rv j))
      (here ∙ ap (λ p. symbol_of kind (w k -ℤ p)) (sym same))
]

pub none_value : (p : Option (List ℤ)) (d : ℕ) → is_some p ≡ false → get_or (unwrap_or p []) d (pos 0) ≡ pos 0
none_value None d e = refl
none_value (Some values) d e = absurd (cc)

-- the symbols of a depth, in the words of another raster of one mask
pub deltas_as : (r s : Pixels) (d : ℕ) → IsRaster r → IsRaster s → SameMask r s
    → deltas_from r.kind r.cols (is_valid r) (value_in s d) 0 (r.rows * r.cols) ≡ deltas_from s.kind s.cols (is_valid s) (value_in s d) 0 (s.rows * s.cols)
deltas_as r s d hr hs same =
    let marks : is_valid r ≡ is_valid s = λ i k. sym (same_marks r s hr hs same k) i in
    λ i. deltas_from (same.shape.kind i) (same.shape.cols i) (marks i) (value_in s d) 0 (same.shape.rows i * same.shape.cols i)

pub one_depth : OneDepth
one_depth r s d symbols hr hs byte same lt dr ds k k_lt =
    let ranges : (j : ℕ) → InRange r.kind (value_in s d j) = λ (j : ℕ). subst (λ kind. InRange kind (value_in s d j)) (sym same.shape.kind) (value_in_range s d j hs) in
    let e : deltas_from r.kind r.cols (is_valid r) (value_in r d) 0 (r.rows * r.cols) ≡ deltas_from r.kind r.cols (is_valid r) (value_in s d) 0 (r.rows * r.cols) =
    sym dr ∙ ds ∙ sym (deltas_as r s d hr hs same) in
    elim (cases_Bool (is_valid r k)) [
      | inl yes_ ↦
          one_below r.kind r.cols (is_valid r) (value_in r d) (value_in s d) (r.rows * r.cols) byte hr.shape.cols_above (λ j. value_in_range r d j hr) ranges e (r.rows * r.cols) (omega arith) k k_lt yes_
      | inr no_ ↦ none_value (get_or r.pixels k None) d no_ ∙ sym (none_value (get_or s.pixels k None) d (same_marks r s hr hs same k ∙ no_))
    ]

-- ---- one raster

pub one_raster : OneRaster
one_raster r s symbols hr hs byte same dr ds = same_raster r s hr hs (record {
  shape = same.shape;
  places = λ row col h. sym (same.places row col h);
  values = λ row col d h yes_ lt.
      one_depth r s d (symbols d) hr hs byte same lt (dr d lt) (ds d lt) (row * r.cols + col) (place_below row col r.rows r.cols h.0 h.1)
      ∙ ap (λ c. value_in s d (row * c + col)) same.shape.cols;
})

-- lists of numbers with the same symbols are equal
lists_once : (kind : PixelType) (xs ys : List ℤ) → IsByteType kind → All (InRange kind) xs → All (InRange kind) ys → map (symbol_of kind) xs ≡ map (symbol_of kind) ys → xs ≡ ys
lists_once kind xs ys byte hx hy e =
    let size : length xs ≡ length ys = sym (length-map xs (symbol_of kind)) ∙ ap length e ∙ length-map ys (symbol_of kind) in
    ext_get_or (pos 0) xs ys size (λ i lt.
    let here : symbol_of kind (get_or xs i (pos 0)) ≡ symbol_of kind (get_or ys i (pos 0)) =
    sym (get_or-map (symbol_of kind) xs i (pos 0) 0 lt) ∙ ap (λ (zs : List ℕ). get_or zs i 0) e ∙ get_or-map (symbol_of kind) ys i (pos 0) 0 (omega arith) in
    value_once kind (get_or xs i (pos 0)) (get_or ys i (pos 0)) (pos 0) byte (hx i (pos 0) lt) (hy i (pos 0) (omega arith)) (zero_in_range kind)
    (ap (symbol_of kind) (less_none (get_or xs i (pos 0))) ∙ here ∙ ap (symbol_of kind) (sym (less_none (get_or ys i (pos 0))))))
  where
    less_none : (z : ℤ) → z -ℤ pos 0 ≡ z
    less_none z = omega (arith, ints)

pub one_plain : OnePlain
one_plain r s symbols hr hs byte same pr ps =
    let range_s : All (InRange r.kind) (values_of s.pixels) = subst (λ kind. All (InRange kind) (values_of s.pixels)) (sym same.shape.kind) (values_in_range s.kind s.depth s.pixels hs.each) in
    let values : values_of r.pixels ≡ values_of s.pixels =
    lists_once r.kind (values_of r.pixels) (values_of s.pixels) byte (values_in_range r.kind r.depth r.pixels hr.each) range_s
    (sym pr ∙ ps ∙ ap (λ kind. map (symbol_of kind) (values_of s.pixels)) (sym same.shape.kind)) in
    let sizes : r.rows * r.cols ≡ s.rows * s.cols = λ i. same.shape.rows i * same.shape.cols i in
    let long : length r.pixels ≡ length s.pixels = hr.places ∙ sizes ∙ sym hs.places in
    let marks : map is_some r.pixels ≡ map is_some s.pixels =
    ext_get_or false (map is_some r.pixels) (map is_some s.pixels) (length-map r.pixels is_some ∙ long ∙ sym (length-map s.pixels is_some)) (λ k lt.
    let below : k < length r.pixels = omega (arith, length-map r.pixels is_some) in
    get_or-map is_some r.pixels k None false below ∙ sym (same_marks r s hr hs same k) ∙ sym (get_or-map is_some s.pixels k None false (omega arith))) in
    let pixels : r.pixels ≡ s.pixels = pixels_once r.depth r.pixels s.pixels (raster_deep r hr) (subst (λ d. AreDeep d s.pixels) (sym same.shape.depth) (raster_deep s hs)) marks values in
    λ i. record { kind = same.shape.kind i; rows = same.shape.rows i; cols = same.shape.cols i; depth = same.shape.depth i; pixels = pixels i }
