-- Bytes begin with a header or have a first fault: each test is decided.
use Rattle.std.proofs.Common.{◌≡◌, ℕ, ℤ, pos, negsuc, ◌+◌, ◌*◌, ◌/◌, ◌%◌, ◌<◌, ◌≤◌, ◌≤ℤ◌, ◌*ℤ◌, zero, suc, List, [], ◌∷◌, length, take, refl, ap, ◌∙◌, subst, arith, ◌⊎◌, inl, inr, ⊎_elim}
use Rattle.std.specs.Prelude.{codes, ◌≢◌, ◌-ℤ◌}
use Rattle.std.proofs.lemmas.Int.{ints, by_lt_z}
use Rattle.std.proofs.lemmas.Bool.{cases_eq, cases_lt}
use Rattle.first_fault.specs.Faults.{Faults, none, wrong, choice}
use Rattle.first_fault.specs.Parts.{HasFault}
use Rattle.first_fault.proofs.Decided.{decided_unless}
use Rattle.raster_cells.specs.declared.kind.PixelType.{PixelType}
use Rattle.raster_cells.specs.declared.kind.PixelType.TheVariants.{I8, U8, I16, U16, I32, U32}
use Rattle.raster_cells.specs.PixelType.{InRange, type_least, type_greatest, code_of}
use Rattle.double_bits.specs.Halves.{HalfDouble}
use Rattle.double_bits.proofs.HalfBits.{half_or_none}
use Rattle.double_bits.proofs.OneHalf.{one_half}
use Rattle.lerc_header.specs.declared.fault.BlobReason.{BlobReason}
use Rattle.lerc_header.specs.declared.fault.BlobReason.TheVariants.{Truncated, BadKey, BadVersion, BadRows, BadCols, BadDepth, TooLarge, BadCount, BadBlockSize, BadBlobSize, FloatPixels, BadType, BadError, BadRange}
use Rattle.lerc_header.specs.declared.header.Version.{Version}
use Rattle.lerc_header.specs.declared.header.Version.TheVariants.{V3, V4}
use Rattle.lerc_header.specs.declared.header.Header.{Header}
use Rattle.raster_cells.specs.Step.{IsTwiceError}
use Rattle.lerc_header.specs.Head.{HeadAt, RangeAt, i32_at, u32_at, double_at, shift, head_length, depth_at}
use Rattle.lerc_header.specs.HeadFaults.{HasKey, HasVersion, key_tests, key_faults, IsWithin, pixels_at, values_at, HasKind, HasStep, HasLeast, HasEnds, HasNone, field_faults, whole_faults, header_faults}
use Rattle.lerc_header.proofs.HeadLemmas.{number_once, kind_once}
use Rattle.lerc_header.proofs.ReadParts.{IsValueAt, not_least, not_ends, pixels_found}
use Rattle.lerc_header.specs.declared.reading.Shape.{Shape}
use Rattle.lerc_header.specs.declared.reading.Counts.{Counts}
use Rattle.lerc_header.specs.inside.Parts.{IsShapeAt, AreCountsAt}

-- ---- tests that are decided

abbrev IsDecidable : Type 0 → Type 0
IsDecidable test = test ⊎ (¬ test)

le_dec : (a b : ℤ) → IsDecidable (a ≤ℤ b)
le_dec a b = by_lt_z b a (λ less. (let r : IsDecidable (a ≤ℤ b) = inr (λ up. omega (arith, ints, less, up)) in r)) (λ up. (let r : IsDecidable (a ≤ℤ b) = inl up in r))

both_dec : (a b : Type 0) → IsDecidable a → IsDecidable b → IsDecidable (a × b)
both_dec a b (inl x) (inl y) = inl (x, y)
both_dec a b (inl x) (inr y) = inr (λ p. y p.1)
both_dec a b (inr x) y = inr (λ p. x p.0)

either_dec : (a b : Type 0) → IsDecidable a → IsDecidable b → IsDecidable (a ⊎ b)
either_dec a b (inl x) y = inl (inl x)
either_dec a b (inr x) (inl y) = inl (inr y)
either_dec a b (inr x) (inr y) = inr (λ p. ⊎_elim (λ (u : a). x u) (λ (v : b). y v) p)

not_dec : (a : Type 0) → IsDecidable a → IsDecidable (¬ a)
not_dec a (inl x) = inr (λ never. never x)
not_dec a (inr x) = inl x

within_dec : (low high n : ℤ) → IsDecidable (IsWithin low high n)
within_dec low high n = both_dec (low ≤ℤ n) (n ≤ℤ high) (le_dec low n) (le_dec n high)

eq_dec : (a b : ℤ) → IsDecidable (a ≡ b)
eq_dec (pos a) (pos b) = ⊎_elim (λ (e : a ≡ b). (let r : IsDecidable (pos a ≡ pos b) = inl (ap pos e) in r)) (λ (n : a ≡ b → ⊥). (let r : IsDecidable (pos a ≡ pos b) = inr (λ e. n (number_once a b (pos a) refl e)) in r)) (cases_eq a b)
eq_dec (pos a) (negsuc b) = inr (λ e. omega (arith, ints, e))
eq_dec (negsuc a) (pos b) = inr (λ e. omega (arith, ints, e))
eq_dec (negsuc a) (negsuc b) = ⊎_elim (λ (e : a ≡ b). (let r : IsDecidable (negsuc a ≡ negsuc b) = inl (ap negsuc e) in r)) (λ (n : a ≡ b → ⊥). (let r : IsDecidable (negsuc a ≡ negsuc b) = inr (λ e. n (omega (arith, ints, e))) in r)) (cases_eq a b)

-- a whole number that is not negative
positive : (z : ℤ) → pos 0 ≤ℤ z → (n : ℕ) × (z ≡ pos n)
positive (pos n) up = (n, refl)
positive (negsuc n) up = absurd (omega (arith, ints, up))

list_dec : (xs ys : List ℕ) → IsDecidable (xs ≡ ys)
list_dec [] [] = inl refl
list_dec [] (y ∷ ys) = inr (λ e. (let bad : ⊥ = cc in bad))
list_dec (x ∷ xs) [] = inr (λ e. (let bad : ⊥ = cc in bad))
list_dec (x ∷ xs) (y ∷ ys) = first x y xs ys (cases_eq x y) (list_dec xs ys)
  where
    first : (x y : ℕ) (xs ys : List ℕ) → IsDecidable (x ≡ y) → IsDecidable (xs ≡ ys) → IsDecidable (x ∷ xs ≡ y ∷ ys)
    first x y xs ys (inl e) (inl es) = inl (λ i. e i ∷ es i)
    first x y xs ys (inl e) (inr n) = inr (λ is. n (let same : xs ≡ ys = cc in same))
    first x y xs ys (inr n) es = inr (λ is. n (let same : x ≡ y = cc in same))

-- ---- fields that are decided

kind_named : (n : ℕ) → n ≤ 5 → (kind : PixelType) × (n ≡ code_of kind)
kind_named zero few = (I8, refl)
kind_named (suc zero) few = (U8, refl)
kind_named (suc (suc zero)) few = (I16, refl)
kind_named (suc (suc (suc zero))) few = (U16, refl)
kind_named (suc (suc (suc (suc zero)))) few = (I32, refl)
kind_named (suc (suc (suc (suc (suc zero))))) few = (U32, refl)
kind_named (suc (suc (suc (suc (suc (suc n)))))) few = absurd (omega (arith, few))

kind_found : (z : ℤ) → IsWithin (pos 0) (pos 5) z → (kind : PixelType) × (z ≡ pos (code_of kind))
kind_found z within =
    let n = positive z within.0 in
    let kind = kind_named n.0 (omega (arith, ints, n.1, within.1)) in
    (kind.0, n.1 ∙ ap pos kind.1)

twice_dec : (n : ℕ) → IsDecidable (IsTwiceError n)
twice_dec n = go (both_dec (0 < n) (n ≤ 8589934590) (lt_dec 0 n) (le_nat_dec n 8589934590)) (either_dec (n ≡ 1) (n % 2 ≡ 0) (cases_eq n 1) (cases_eq (n % 2) 0))
  where
    lt_dec : (a b : ℕ) → IsDecidable (a < b)
    lt_dec a b = ⊎_elim (λ (u : a < b). (let r : IsDecidable (a < b) = inl u in r)) (λ (u : b ≤ a). (let r : IsDecidable (a < b) = inr (λ w. omega (arith, u, w)) in r)) (cases_lt a b)

    le_nat_dec : (a b : ℕ) → IsDecidable (a ≤ b)
    le_nat_dec a b = ⊎_elim (λ (u : b < a). (let r : IsDecidable (a ≤ b) = inr (λ w. omega (arith, u, w)) in r)) (λ (u : a ≤ b). (let r : IsDecidable (a ≤ b) = inl u in r)) (cases_lt b a)

    even_of : (m : ℕ) → (m ≡ 1) ⊎ (m % 2 ≡ 0) → m ≢ 1 → m % 2 ≡ 0
    even_of m (inl u) never = absurd (never u)
    even_of m (inr u) never = u

    or_even : (m : ℕ) → IsTwiceError m → IsDecidable (m ≡ 1) → (m ≡ 1) ⊎ (m % 2 ≡ 0)
    or_even m is (inl u) = inl u
    or_even m is (inr u) = inr (is.even u)

    go : IsDecidable ((0 < n) × (n ≤ 8589934590)) → IsDecidable ((n ≡ 1) ⊎ (n % 2 ≡ 0)) → IsDecidable (IsTwiceError n)
    go (inl u) (inl w) = inl (record { above = u.0; below = u.1; even = even_of n w })
    go (inl u) (inr w) = inr (λ is. w (or_even n is (cases_eq n 1)))
    go (inr u) w = inr (λ is. u (is.above, is.below))

-- twice an error, by the bits of a double
abbrev HasTwice : ℕ → Type 0
HasTwice bits = (step : ℕ) × (HalfDouble bits (pos step) × IsTwiceError step)

step_dec : (v : Version) (bytes : List ℕ) → IsDecidable (HasStep v bytes)
step_dec v bytes = go (double_at bytes (38 + shift v)) (half_or_none (double_at bytes (38 + shift v)))
  where
    test : (bits n : ℕ) → HalfDouble bits (pos n) → IsDecidable (IsTwiceError n) → IsDecidable (HasTwice bits)
    test bits n is (inl u) = inl (n, (is, u))
    test bits n is (inr u) = inr (λ w. u (subst IsTwiceError (number_once w.0 n (pos w.0) refl (one_half bits (pos w.0) (pos n) w.1.0 is)) w.1.1))

    positive_only : (bits : ℕ) (h : ℤ) → HalfDouble bits h → IsDecidable (HasTwice bits)
    positive_only bits (pos n) is = test bits n is (twice_dec n)
    positive_only bits (negsuc n) is = inr (λ w. (let e : pos w.0 ≡ negsuc n = one_half bits (pos w.0) (negsuc n) w.1.0 is in omega (arith, ints, e)))

    go : (bits : ℕ) → ((h : ℤ) × HalfDouble bits h) ⊎ ((h : ℤ) → ¬ HalfDouble bits h) → IsDecidable (HasTwice bits)
    go bits (inl h) = positive_only bits h.0 h.1
    go bits (inr none_) = inr (λ w. none_ (pos w.0) w.1.0)

-- half of a whole number
half_dec : (h : ℤ) → ((z : ℤ) × (h ≡ pos 2 *ℤ z)) ⊎ ((z : ℤ) → h ≡ pos 2 *ℤ z → ⊥)
half_dec (pos a) = go (cases_eq (a % 2) 0)
  where
    go : IsDecidable (a % 2 ≡ 0) → ((z : ℤ) × (pos a ≡ pos 2 *ℤ z)) ⊎ ((z : ℤ) → pos a ≡ pos 2 *ℤ z → ⊥)
    go (inl even) = inl (pos (a / 2), (let t : pos a ≡ pos 2 *ℤ pos (a / 2) = omega (arith, ints, even) in t))
    go (inr odd) = inr (λ z e. omega (arith, ints, odd, e))
half_dec (negsuc a) = go (cases_eq (suc a % 2) 0)
  where
    go : IsDecidable (suc a % 2 ≡ 0) → ((z : ℤ) × (negsuc a ≡ pos 2 *ℤ z)) ⊎ ((z : ℤ) → negsuc a ≡ pos 2 *ℤ z → ⊥)
    go (inl even) = inl (pos 0 -ℤ pos (suc a / 2), (let t : negsuc a ≡ pos 2 *ℤ (pos 0 -ℤ pos (suc a / 2)) = omega (arith, ints, even) in t))
    go (inr odd) = inr (λ z e. omega (arith, ints, odd, e))

abbrev HasValue : List ℕ → ℕ → PixelType → Type 0
HasValue bytes place kind = ((z : ℤ) × IsValueAt bytes place kind z) ⊎ ((z : ℤ) → IsValueAt bytes place kind z → ⊥)

value_in : (bytes : List ℕ) (place : ℕ) (kind : PixelType) (h z : ℤ) → HalfDouble (double_at bytes place) h → h ≡ pos 2 *ℤ z → IsDecidable (InRange kind z) → HasValue bytes place kind
value_in bytes place kind h z is e (inl u) = inl (z, (subst (HalfDouble (double_at bytes place)) e is, u))
value_in bytes place kind h z is e (inr u) = inr (λ y w.
    (let same : pos 2 *ℤ y ≡ pos 2 *ℤ z = one_half (double_at bytes place) (pos 2 *ℤ y) h w.0 is ∙ e in
    let equal : y ≡ z = omega (arith, ints, same) in
    u (subst (InRange kind) equal w.1)))

value_half : (bytes : List ℕ) (place : ℕ) (kind : PixelType) (h : ℤ) → HalfDouble (double_at bytes place) h → ((z : ℤ) × (h ≡ pos 2 *ℤ z)) ⊎ ((z : ℤ) → h ≡ pos 2 *ℤ z → ⊥) → HasValue bytes place kind
value_half bytes place kind h is (inl z) = value_in bytes place kind h z.0 is z.1 (both_dec (type_least kind ≤ℤ z.0) (z.0 ≤ℤ type_greatest kind) (le_dec (type_least kind) z.0) (le_dec z.0 (type_greatest kind)))
value_half bytes place kind h is (inr never) = inr (λ y w. never y (one_half (double_at bytes place) h (pos 2 *ℤ y) is w.0))

value_of_half : (bytes : List ℕ) (place : ℕ) (kind : PixelType) → ((h : ℤ) × HalfDouble (double_at bytes place) h) ⊎ ((h : ℤ) → ¬ HalfDouble (double_at bytes place) h) → HasValue bytes place kind
value_of_half bytes place kind (inl h) = value_half bytes place kind h.0 h.1 (half_dec h.0)
value_of_half bytes place kind (inr never) = inr (λ z w. never (pos 2 *ℤ z) w.0)

value_dec : (bytes : List ℕ) (place : ℕ) (kind : PixelType) → HasValue bytes place kind
value_dec bytes place kind = value_of_half bytes place kind (half_or_none (double_at bytes place))

-- zMin, where the type is known
least_of_value : (v : Version) (bytes : List ℕ) (kind : PixelType) → HasKind v bytes kind → IsDecidable (HasNone v bytes) → HasValue bytes (46 + shift v) kind → IsDecidable (HasNone v bytes ⊎ HasLeast v bytes)
least_of_value v bytes kind has (inl none_) value = inl (inl none_)
least_of_value v bytes kind has (inr some) (inl z) = inl (inr (z.0, (z.1.0, (kind, (has, z.1.1)))))
least_of_value v bytes kind has (inr some) (inr never) = inr (not_least v bytes kind has some never)

least_dec : (v : Version) (bytes : List ℕ) (kind : PixelType) → HasKind v bytes kind → IsDecidable (HasNone v bytes ⊎ HasLeast v bytes)
least_dec v bytes kind has = least_of_value v bytes kind has (eq_dec (i32_at bytes (22 + shift v)) (pos 0)) (value_dec bytes (46 + shift v) kind)

-- zMax, where zMin stands
ends_of_value : (v : Version) (bytes : List ℕ) (kind : PixelType) (least : ℤ) → HasKind v bytes kind → ¬ HasNone v bytes → IsValueAt bytes (46 + shift v) kind least → (greatest : ℤ) → IsValueAt bytes (54 + shift v) kind greatest
    → IsDecidable (least ≤ℤ greatest) → IsDecidable (HasNone v bytes ⊎ HasEnds v bytes)
ends_of_value v bytes kind least has some low greatest high (inl ordered) =
    inl (inr (least, (greatest, ((low.0, (kind, (has, low.1))), ((high.0, (kind, (has, high.1))), ordered)))))
ends_of_value v bytes kind least has some low greatest high (inr never) = inr (not_ends v bytes kind least has some low (λ z w ordered.
    (let same : pos 2 *ℤ z ≡ pos 2 *ℤ greatest = one_half (double_at bytes (54 + shift v)) (pos 2 *ℤ z) (pos 2 *ℤ greatest) w.0 high.0 in
    never (omega (arith, ints, same, ordered)))))

ends_behind : (v : Version) (bytes : List ℕ) (kind : PixelType) (least : ℤ) → HasKind v bytes kind → ¬ HasNone v bytes → IsValueAt bytes (46 + shift v) kind least → HasValue bytes (54 + shift v) kind → IsDecidable (HasNone v bytes ⊎ HasEnds v bytes)
ends_behind v bytes kind least has some low (inl z) = ends_of_value v bytes kind least has some low z.0 z.1 (le_dec least z.0)
ends_behind v bytes kind least has some low (inr never) = inr (not_ends v bytes kind least has some low (λ z w ordered. never z w))

ends_in : (v : Version) (bytes : List ℕ) (kind : PixelType) → HasKind v bytes kind → HasNone v bytes ⊎ HasLeast v bytes → IsDecidable (HasNone v bytes) → IsDecidable (HasNone v bytes ⊎ HasEnds v bytes)
ends_in v bytes kind has front (inl none_) = inl (inl none_)
ends_in v bytes kind has (inl none_) (inr some) = absurd (some none_)
ends_in v bytes kind has (inr least) (inr some) =
    let same = kind_once least.1.1.0 kind (number_once _ _ _ least.1.1.1.0 has) in
    ends_behind v bytes kind least.0 has some (least.1.0, subst (λ k. InRange k least.0) same least.1.1.1.1) (value_dec bytes (54 + shift v) kind)

ends_dec : (v : Version) (bytes : List ℕ) (kind : PixelType) → HasKind v bytes kind → HasNone v bytes ⊎ HasLeast v bytes → IsDecidable (HasNone v bytes ⊎ HasEnds v bytes)
ends_dec v bytes kind has front = ends_in v bytes kind has front (eq_dec (i32_at bytes (22 + shift v)) (pos 0))

-- ---- the header of fields that stand

pub record IsFound (v : Version) (bytes : List ℕ) (h : Header) : Type 0 where
  pub head : HeadAt bytes h
  pub version : h.version ≡ v

shape_found : (v : Version) (bytes : List ℕ) → pos 1 ≤ℤ i32_at bytes 14 → pos 1 ≤ℤ i32_at bytes 18 → IsWithin (pos 1) (pos 65536) (depth_at v bytes) → values_at v bytes ≤ℤ pos 16777216 → (s : Shape) × IsShapeAt v bytes s
shape_found v bytes t1 t2 t3 t4 =
    let rows = positive (i32_at bytes 14) (omega (arith, ints, t1)) in
    let cols = positive (i32_at bytes 18) (omega (arith, ints, t2)) in
    let depth = positive (depth_at v bytes) (omega (arith, ints, t3.0)) in
    let values : values_at v bytes ≡ pos (rows.0 * cols.0 * depth.0) =
    (λ i. rows.1 i *ℤ cols.1 i *ℤ depth.1 i) ∙ (let t : pos rows.0 *ℤ pos cols.0 *ℤ pos depth.0 ≡ pos (rows.0 * cols.0 * depth.0) = omega (arith, ints) in t) in
    let size : pos (rows.0 * cols.0 * depth.0) ≤ℤ pos 16777216 = subst (λ (n : ℤ). n ≤ℤ pos 16777216) values t4 in (
      record { rows = rows.0; cols = cols.0; depth = depth.0 },
      record {
        rows = rows.1;
        cols = cols.1;
        depth = depth.1;
        shape = record {
          rows_above = omega (arith, ints, rows.1, t1);
          cols_above = omega (arith, ints, cols.1, t2);
          depth_above = omega (arith, ints, depth.1, t3.0);
          depth_below = omega (arith, ints, depth.1, t3.1);
          size = omega (arith, ints, size);
        };
      },
    )

counts_found : (v : Version) (bytes : List ℕ) (s : Shape) → IsShapeAt v bytes s → IsWithin (pos 0) (pixels_at bytes) (i32_at bytes (22 + shift v)) → pos 1 ≤ℤ i32_at bytes (26 + shift v)
    → IsWithin (pos (head_length v + 4)) (pos 134217728) (i32_at bytes (30 + shift v)) → (c : Counts) × AreCountsAt v bytes s c
counts_found v bytes s is t5 t6 t7 =
    let valid = positive (i32_at bytes (22 + shift v)) t5.0 in
    let side = positive (i32_at bytes (26 + shift v)) (omega (arith, ints, t6)) in
    let size = positive (i32_at bytes (30 + shift v)) (omega (arith, ints, t7.0)) in
    let below : i32_at bytes (22 + shift v) ≤ℤ pos (s.rows * s.cols) = subst (λ (n : ℤ). i32_at bytes (22 + shift v) ≤ℤ n) (pixels_found v bytes s is) t5.1 in (
      record { valid = valid.0; side = side.0; size = size.0 },
      record {
        valid = valid.1;
        valid_below = omega (arith, ints, valid.1, below);
        side = side.1;
        side_above = omega (arith, ints, side.1, t6);
        size = size.1;
        size_above = omega (arith, ints, size.1, t7.0);
        size_below = omega (arith, ints, size.1, t7.1);
      },
    )

record RangeFound (bytes : List ℕ) (place : ℕ) (kind : PixelType) (valid : ℕ) : Type 0 where
  pub least : ℤ
  pub greatest : ℤ
  pub range : RangeAt bytes place kind valid least greatest

range_none : (bytes : List ℕ) (place : ℕ) (kind : PixelType) (valid : ℕ) → valid ≡ 0 → RangeFound bytes place kind valid
range_none bytes place kind valid none_ = record { least = pos 0; greatest = pos 0; range = inr (none_, refl, refl) }

range_ends : (v : Version) (bytes : List ℕ) (kind : PixelType) (valid : ℕ) → HasKind v bytes kind → i32_at bytes (22 + shift v) ≡ pos valid → IsDecidable (valid ≡ 0) → HasNone v bytes ⊎ HasEnds v bytes → RangeFound bytes (46 + shift v) kind valid
range_ends v bytes kind valid has is (inl none_) ends = range_none bytes (46 + shift v) kind valid none_
range_ends v bytes kind valid has is (inr some) (inl none_) = absurd (some (number_once valid 0 (i32_at bytes (22 + shift v)) is none_))
range_ends v bytes kind valid has is (inr some) (inr ends) =
    let low = ends.1.1.0 in
    let high = ends.1.1.1.0 in
    let one = kind_once low.1.0 kind (number_once _ _ _ low.1.1.0 has) in
    let two = kind_once high.1.0 kind (number_once _ _ _ high.1.1.0 has) in
    let place : 54 + shift v ≡ 46 + shift v + 8 = omega arith in
    record {
      least = ends.0;
      greatest = ends.1.0;
      range = inl (
        omega (arith, some),
        record {
          z_min = low.0;
          least_in_range = subst (λ k. InRange k ends.0) one low.1.1.1;
          z_max = subst (λ p. HalfDouble (double_at bytes p) (pos 2 *ℤ ends.1.0)) place high.0;
          greatest_in_range = subst (λ k. InRange k ends.1.0) two high.1.1.1;
          in_order = ends.1.1.1.1;
        },
      );
    }

found_head : (v : Version) (bytes : List ℕ) → HasKey bytes → HasVersion bytes v → head_length v ≤ length bytes
    → (s : Shape) → IsShapeAt v bytes s → (c : Counts) → AreCountsAt v bytes s c → (kind : PixelType) → HasKind v bytes kind → HasStep v bytes → RangeFound bytes (46 + shift v) kind c.valid → (h : Header) × IsFound v bytes h
found_head v bytes key version long s is c are kind has step range = (
  record {
    version = v;
    checksum = u32_at bytes 10;
    rows = s.rows;
    cols = s.cols;
    depth = s.depth;
    valid = c.valid;
    side = c.side;
    size = c.size;
    kind = kind;
    step = step.0;
    least = range.least;
    greatest = range.greatest;
  },
  record {
    head = record {
      long = long;
      key = key;
      version = version;
      checksum = refl;
      rows = is.rows;
      cols = is.cols;
      depth = is.depth;
      shape = is.shape;
      valid = are.valid;
      valid_below = are.valid_below;
      side = are.side;
      side_above = are.side_above;
      size = are.size;
      size_above = are.size_above;
      size_below = are.size_below;
      kind = has;
      step = step.1.0;
      step_allowed = step.1.1;
      range = range.range;
    };
    version = refl;
  },
)

-- ---- a header, or its first fault

has_wrong : (why : BlobReason) (at : ℕ) → HasFault (wrong why at)
has_wrong why at = record { place = at; reason = why; fault = (refl, refl) }

pub head_or_fault : (v : Version) (bytes : List ℕ) → HasKey bytes → HasVersion bytes v → head_length v ≤ length bytes → ((h : Header) × IsFound v bytes h) ⊎ HasFault (field_faults v bytes)
head_or_fault v bytes key version long =
    decided_unless (pos 1 ≤ℤ i32_at bytes 14) (wrong BadRows 14) _ (le_dec (pos 1) (i32_at bytes 14)) (has_wrong BadRows 14) (λ t1.
    decided_unless (pos 1 ≤ℤ i32_at bytes 18) (wrong BadCols 18) _ (le_dec (pos 1) (i32_at bytes 18)) (has_wrong BadCols 18) (λ t2.
    decided_unless (IsWithin (pos 1) (pos 65536) (depth_at v bytes)) (wrong BadDepth 22) _ (within_dec (pos 1) (pos 65536) (depth_at v bytes)) (has_wrong BadDepth 22) (λ t3.
    decided_unless (values_at v bytes ≤ℤ pos 16777216) (wrong TooLarge (18 + shift v)) _ (le_dec (values_at v bytes) (pos 16777216)) (has_wrong TooLarge (18 + shift v)) (λ t4.
    let s = shape_found v bytes t1 t2 t3 t4 in
    decided_unless (IsWithin (pos 0) (pixels_at bytes) (i32_at bytes (22 + shift v))) (wrong BadCount (22 + shift v)) _ (within_dec (pos 0) (pixels_at bytes) (i32_at bytes (22 + shift v))) (has_wrong BadCount (22 + shift v)) (λ t5.
    decided_unless (pos 1 ≤ℤ i32_at bytes (26 + shift v)) (wrong BadBlockSize (26 + shift v)) _ (le_dec (pos 1) (i32_at bytes (26 + shift v))) (has_wrong BadBlockSize (26 + shift v)) (λ t6.
    decided_unless (IsWithin (pos (head_length v + 4)) (pos 134217728) (i32_at bytes (30 + shift v))) (wrong BadBlobSize (30 + shift v)) _
    (within_dec (pos (head_length v + 4)) (pos 134217728) (i32_at bytes (30 + shift v))) (has_wrong BadBlobSize (30 + shift v)) (λ t7.
    let c = counts_found v bytes s.0 s.1 t5 t6 t7 in
    decided_unless (¬ IsWithin (pos 6) (pos 7) (i32_at bytes (34 + shift v))) (wrong FloatPixels (34 + shift v)) _
    (not_dec (IsWithin (pos 6) (pos 7) (i32_at bytes (34 + shift v))) (within_dec (pos 6) (pos 7) (i32_at bytes (34 + shift v)))) (has_wrong FloatPixels (34 + shift v)) (λ t8.
    decided_unless (IsWithin (pos 0) (pos 5) (i32_at bytes (34 + shift v))) (wrong BadType (34 + shift v)) _ (within_dec (pos 0) (pos 5) (i32_at bytes (34 + shift v))) (has_wrong BadType (34 + shift v)) (λ t9.
    let kind = kind_found (i32_at bytes (34 + shift v)) t9 in
    decided_unless (HasStep v bytes) (wrong BadError (38 + shift v)) _ (step_dec v bytes) (has_wrong BadError (38 + shift v)) (λ t10.
    decided_unless (HasNone v bytes ⊎ HasLeast v bytes) (wrong BadRange (46 + shift v)) _ (least_dec v bytes kind.0 kind.1) (has_wrong BadRange (46 + shift v)) (λ t11.
    decided_unless (HasNone v bytes ⊎ HasEnds v bytes) (wrong BadRange (54 + shift v)) none (ends_dec v bytes kind.0 kind.1 t11) (has_wrong BadRange (54 + shift v)) (λ t12.
    inl (found_head v bytes key version long s.0 s.1 c.0 c.1 kind.0 kind.1 t10 (range_ends v bytes kind.0 c.0.valid kind.1 c.1.valid (cases_eq c.0.valid 0) t12))))))))))))))

left_fault : (test : Type 0) (f g : Faults BlobReason) {Y : Type 0} → test → Y ⊎ HasFault f → Y ⊎ HasFault (choice test f g)
left_fault test f g t (inl y) = inl y
left_fault test f g t (inr w) = inr (record { place = w.place; reason = w.reason; fault = inl (t, w.fault) })

right_fault : (test : Type 0) (f g : Faults BlobReason) {Y : Type 0} → ¬ test → Y ⊎ HasFault g → Y ⊎ HasFault (choice test f g)
right_fault test f g t (inl y) = inl y
right_fault test f g t (inr w) = inr (record { place = w.place; reason = w.reason; fault = inr (t, w.fault) })

decided_choice : (test : Type 0) (f g : Faults BlobReason) {Y : Type 0} → IsDecidable test → (test → Y ⊎ HasFault f) → (¬ test → Y ⊎ HasFault g) → Y ⊎ HasFault (choice test f g)
decided_choice test f g (inl t) yes_ no_ = left_fault test f g t (yes_ t)
decided_choice test f g (inr t) yes_ no_ = right_fault test f g t (no_ t)

key_decided : (behind : Version → Faults BlobReason) (bytes : List ℕ) {Y : Type 0} → ((v : Version) → HasKey bytes → HasVersion bytes v → Y ⊎ HasFault (behind v)) → Y ⊎ HasFault (key_tests behind bytes)
key_decided behind bytes go =
    decided_unless (HasKey bytes) (wrong BadKey 0) _ (list_dec (take 6 bytes) (codes "Lerc2 ")) (has_wrong BadKey 0) (λ key.
    decided_choice (HasVersion bytes V3) (behind V3) _ (eq_dec (i32_at bytes 6) (pos 3)) (λ three. go V3 key three) (λ no_three.
    decided_choice (HasVersion bytes V4) (behind V4) (wrong BadVersion 6) (eq_dec (i32_at bytes 6) (pos 4)) (λ four. go V4 key four) (λ no_four. inr (has_wrong BadVersion 6))))

pub record IsKeyed (bytes : List ℕ) (v : Version) : Type 0 where
  pub key : HasKey bytes
  pub version : HasVersion bytes v

pub key_or_fault : (bytes : List ℕ) → ((v : Version) × IsKeyed bytes v) ⊎ HasFault (key_faults bytes)
key_or_fault bytes = key_decided (λ v. none) bytes (λ v key version. inl (v, record { key = key; version = version }))

only_head : (v : Version) (bytes : List ℕ) (f : Faults BlobReason) → ((h : Header) × IsFound v bytes h) ⊎ HasFault f → ((h : Header) × HeadAt bytes h) ⊎ HasFault f
only_head v bytes f (inl h) = inl (h.0, h.1.head)
only_head v bytes f (inr w) = inr w

length_dec : (a b : ℕ) → IsDecidable (a ≤ b)
length_dec a b = ⊎_elim (λ (u : b < a). (let r : IsDecidable (a ≤ b) = inr (λ w. omega (arith, u, w)) in r)) (λ (u : a ≤ b). (let r : IsDecidable (a ≤ b) = inl u in r)) (cases_lt b a)

pub header_or_fault : (bytes : List ℕ) → ((h : Header) × HeadAt bytes h) ⊎ HasFault (header_faults bytes)
header_or_fault bytes =
    decided_unless (10 ≤ length bytes) (wrong Truncated (length bytes)) _ (length_dec 10 (length bytes)) (has_wrong Truncated (length bytes)) (λ ten.
    key_decided (λ v. whole_faults v bytes) bytes (λ v key version.
    decided_unless (head_length v ≤ length bytes) (wrong Truncated (length bytes)) (field_faults v bytes) (length_dec (head_length v) (length bytes)) (has_wrong Truncated (length bytes)) (λ long.
    only_head v bytes (field_faults v bytes) (head_or_fault v bytes key version long))))
