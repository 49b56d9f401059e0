-- The bytes that are written for a header: the header stands on them, whatever follows.
use Rattle.std.proofs.Common.{◌≡◌, ℕ, ℤ, pos, ◌+◌, ◌*◌, ◌^◌, ◌<◌, ◌≤◌, ◌*ℤ◌, List, ◌++◌, length, take, drop, refl, sym, ap, ◌∙◌, subst, arith, inl, inr}
use Rattle.std.specs.Prelude.{codes, unsigned_abs}
use Rattle.std.proofs.lemmas.Int.{ints, unsigned_abs-mul}
use Rattle.std.proofs.lemmas.Bool.Decides.{nat_tests}
use Rattle.std.proofs.lemmas.List.{append_assoc, length-append, drop-drop, take_at}
use Rattle.std.proofs.Math.Nat.{mul-le-mul_left, mul-le-mul_right}
use Rattle.std.proofs.Math.Seq.{drop-append_seam}
use mir.Syntax.{w64}
use mir.Val.{to_z, of_z}
use Rattle.byteorder.specs.Endian.{little_number, little_bytes, twos_complement}
use Rattle.byteorder.specs.Numbers.{little_number-reads_back}
use Rattle.raster_cells.specs.declared.kind.PixelType.{PixelType}
use Rattle.raster_cells.specs.declared.kind.PixelType.TheVariants.{I8, U8, I16, U16, I32, U32}
use Rattle.raster_cells.specs.PixelType.{InRange, code_of}
use Rattle.raster_cells.specs.Shapes.{IsShape}
use Rattle.double_bits.specs.Bits.{half_bits}
use Rattle.double_bits.specs.Halves.{HalfDouble}
use Rattle.double_bits.proofs.HalfBits.{half_stands, half_fits}
use Rattle.lerc_header.specs.declared.header.Version.{Version}
use Rattle.lerc_header.specs.declared.header.Version.TheVariants.{V3, V4}
use Rattle.lerc_header.specs.declared.header.Header.{Header}
use Rattle.lerc_header.specs.Head.{HeadAt, RangeAt, i32_at, u32_at, double_at, version_number, shift, head_length, depth_at}
use Rattle.lerc_header.specs.Written.{IsHeader, AreEnds, depth_bytes, shape_bytes, counts_bytes, doubles_bytes, field_bytes, head_bytes}
use Rattle.lerc_header.proofs.FaultLemmas.{code_below}

-- ---- values are small

pub value_small : (kind : PixelType) (z : ℤ) → InRange kind z → unsigned_abs z ≤ 4294967296
value_small I8 z is = omega (arith, ints, is.0, is.1)
value_small U8 z is = omega (arith, ints, is.0, is.1)
value_small I16 z is = omega (arith, ints, is.0, is.1)
value_small U16 z is = omega (arith, ints, is.0, is.1)
value_small I32 z is = omega (arith, ints, is.0, is.1)
value_small U32 z is = omega (arith, ints, is.0, is.1)

pub record AreSmall (least greatest : ℤ) : Type 0 where
  pub least_small : unsigned_abs least ≤ 4294967296
  pub greatest_small : unsigned_abs greatest ≤ 4294967296

pub ends_small : (kind : PixelType) (valid : ℕ) (least greatest : ℤ) → AreEnds kind valid least greatest → AreSmall least greatest
ends_small kind valid least greatest (inl u) = record { least_small = value_small kind least u.1; greatest_small = value_small kind greatest u.2 }
ends_small kind valid least greatest (inr u) = record { least_small = omega (arith, ints, u.1); greatest_small = omega (arith, ints, u.2) }

pub twice_small : (z : ℤ) → unsigned_abs z ≤ 4294967296 → unsigned_abs (pos 2 *ℤ z) < 2 ^ 34
twice_small z small = omega (arith, unsigned_abs-mul (pos 2) z, small)

-- ---- numbers at a place

-- from a place on the bytes are these
next : (bytes xs t : List ℕ) (p q : ℕ) → drop p bytes ≡ xs ++ t → q ≡ p + length xs → drop q bytes ≡ t
next bytes xs t p q there at =
    ap (λ n. drop n bytes) at ∙ sym (drop-drop (length xs) p bytes) ∙ ap (drop (length xs)) there ∙ drop-append_seam xs t

number_there : (bytes t : List ℕ) (p n x : ℕ) → x < 256 ^ n → drop p bytes ≡ little_bytes n x ++ t → little_number n (drop p bytes) ≡ x
number_there bytes t p n x below there = ap (little_number n) there ∙ little_number-reads_back n x t below

twos_small : (x : ℕ) → x < 2 ^ 31 → twos_complement 4 x ≡ pos x
twos_small x below = grind (arith, nat_tests)

i32_there : (bytes t : List ℕ) (p x : ℕ) → x < 2 ^ 31 → drop p bytes ≡ little_bytes 4 x ++ t → i32_at bytes p ≡ pos x
unfolding i32_at
i32_there bytes t p x below there = ap (twos_complement 4) (number_there bytes t p 4 x (omega (arith, below)) there) ∙ twos_small x below

u32_there : (bytes t : List ℕ) (p x : ℕ) → x < 2 ^ 32 → drop p bytes ≡ little_bytes 4 x ++ t → u32_at bytes p ≡ x
unfolding u32_at
u32_there bytes t p x below there = number_there bytes t p 4 x (omega (arith, below)) there

double_there : (bytes t : List ℕ) (p : ℕ) (h : ℤ) → unsigned_abs h < 2 ^ 34 → drop p bytes ≡ little_bytes 8 (half_bits h) ++ t → HalfDouble (double_at bytes p) h
unfolding double_at
double_there bytes t p h small there =
    subst (λ bits. HalfDouble bits h) (sym (number_there bytes t p 8 (half_bits h) (half_fits h small) there)) (half_stands h small)

-- ---- the parts of the bytes

pub length-depth : (v : Version) (depth : ℕ) → length (depth_bytes v depth) ≡ shift v
length-depth V3 depth = refl
length-depth V4 depth = refl

pub length-head : (h : Header) → length (head_bytes h) ≡ head_length h.version
unfolding head_bytes field_bytes
length-head h =
    let s = shape_bytes h in
    let rest = counts_bytes h ++ doubles_bytes h in
    let shape : length s ≡ 8 + shift h.version = omega (arith, length-depth h.version h.depth) in
    let both : length (s ++ rest) ≡ length s + 40 = length-append s rest in
    omega (arith, both, shape)

-- the checksum stands in front of the fields that it covers
pub drop-head : (h : Header) → drop 14 (head_bytes h) ≡ field_bytes h
unfolding head_bytes
drop-head h = refl

-- a cast of so small a number changes nothing
pub same_twice : (z : ℤ) → unsigned_abs z ≤ 4294967296 → to_z w64 (of_z w64 (pos 2 *ℤ to_z w64 (of_z w64 z))) ≡ pos 2 *ℤ z
same_twice z small =
    let one : to_z w64 (of_z w64 z) ≡ z = omega (arith, ints, small) in
    let twice = twice_small z small in
    ap (λ y. to_z w64 (of_z w64 (pos 2 *ℤ y))) one ∙ (let t : to_z w64 (of_z w64 (pos 2 *ℤ z)) ≡ pos 2 *ℤ z = omega (arith, ints, twice) in t)

-- ---- the header stands

-- the bytes from each field on
record HasTails (h : Header) (bytes t : List ℕ) : Type 0 where
  pub key : bytes ≡ codes "Lerc2 " ++ drop 6 bytes
  pub version : drop 6 bytes ≡ little_bytes 4 (version_number h.version) ++ drop 10 bytes
  pub checksum : drop 10 bytes ≡ little_bytes 4 h.checksum ++ drop 14 bytes
  pub rows : drop 14 bytes ≡ little_bytes 4 h.rows ++ drop 18 bytes
  pub cols : drop 18 bytes ≡ little_bytes 4 h.cols ++ drop 22 bytes
  pub depth : drop 22 bytes ≡ depth_bytes h.version h.depth ++ drop (22 + shift h.version) bytes
  pub valid : drop (22 + shift h.version) bytes ≡ little_bytes 4 h.valid ++ drop (26 + shift h.version) bytes
  pub side : drop (26 + shift h.version) bytes ≡ little_bytes 4 h.side ++ drop (30 + shift h.version) bytes
  pub size : drop (30 + shift h.version) bytes ≡ little_bytes 4 h.size ++ drop (34 + shift h.version) bytes
  pub kind : drop (34 + shift h.version) bytes ≡ little_bytes 4 (code_of h.kind) ++ drop (38 + shift h.version) bytes
  pub step : drop (38 + shift h.version) bytes ≡ little_bytes 8 (half_bits (pos h.step)) ++ drop (46 + shift h.version) bytes
  pub least : drop (46 + shift h.version) bytes ≡ little_bytes 8 (half_bits (pos 2 *ℤ h.least)) ++ drop (54 + shift h.version) bytes
  pub greatest : drop (54 + shift h.version) bytes ≡ little_bytes 8 (half_bits (pos 2 *ℤ h.greatest)) ++ t

-- a field in front of what follows it
field : (bytes xs t : List ℕ) (p q : ℕ) → drop p bytes ≡ xs ++ t → q ≡ p + length xs → drop p bytes ≡ xs ++ drop q bytes
field bytes xs t p q there at = there ∙ ap (λ u. xs ++ u) (sym (next bytes xs t p q there at))

has_tails : (h : Header) (bytes t : List ℕ) → bytes ≡ head_bytes h ++ t → HasTails h bytes t
unfolding head_bytes field_bytes
has_tails h bytes t is =
    let s = shift h.version in
    let long = length-depth h.version h.depth in
    let depth = depth_bytes h.version h.depth in
    let b13 = little_bytes 8 (half_bits (pos 2 *ℤ h.greatest)) in
    let b12 = little_bytes 8 (half_bits (pos 2 *ℤ h.least)) in
    let b11 = little_bytes 8 (half_bits (pos h.step)) in
    let b10 = little_bytes 4 (code_of h.kind) in
    let b9 = little_bytes 4 h.size in
    let b8 = little_bytes 4 h.side in
    let b7 = little_bytes 4 h.valid in
    let at22 : drop 22 bytes ≡ depth ++ (b7 ++ (b8 ++ (b9 ++ (b10 ++ (b11 ++ (b12 ++ (b13 ++ t))))))) = ap (drop 22) is ∙ append_assoc depth (counts_bytes h ++ doubles_bytes h) t in
    let at_valid = next bytes depth (b7 ++ (b8 ++ (b9 ++ (b10 ++ (b11 ++ (b12 ++ (b13 ++ t))))))) 22 (22 + s) at22 (omega (arith, long)) in
    let at_side = next bytes b7 (b8 ++ (b9 ++ (b10 ++ (b11 ++ (b12 ++ (b13 ++ t)))))) (22 + s) (26 + s) at_valid (omega arith) in
    let at_size = next bytes b8 (b9 ++ (b10 ++ (b11 ++ (b12 ++ (b13 ++ t))))) (26 + s) (30 + s) at_side (omega arith) in
    let at_kind = next bytes b9 (b10 ++ (b11 ++ (b12 ++ (b13 ++ t)))) (30 + s) (34 + s) at_size (omega arith) in
    let at_step = next bytes b10 (b11 ++ (b12 ++ (b13 ++ t))) (34 + s) (38 + s) at_kind (omega arith) in
    let at_least = next bytes b11 (b12 ++ (b13 ++ t)) (38 + s) (46 + s) at_step (omega arith) in
    let at_greatest = next bytes b12 (b13 ++ t) (46 + s) (54 + s) at_least (omega arith) in
    record {
      key = is ∙ ap (λ u. codes "Lerc2 " ++ u) (sym (ap (drop 6) is));
      version = ap (drop 6) is ∙ ap (λ u. little_bytes 4 (version_number h.version) ++ u) (sym (ap (drop 10) is));
      checksum = ap (drop 10) is ∙ ap (λ u. little_bytes 4 h.checksum ++ u) (sym (ap (drop 14) is));
      rows = ap (drop 14) is ∙ ap (λ u. little_bytes 4 h.rows ++ u) (sym (ap (drop 18) is));
      cols = ap (drop 18) is ∙ ap (λ u. little_bytes 4 h.cols ++ u) (sym (ap (drop 22) is));
      depth = field bytes depth _ 22 (22 + s) at22 (omega (arith, long));
      valid = field bytes b7 _ (22 + s) (26 + s) at_valid (omega arith);
      side = field bytes b8 _ (26 + s) (30 + s) at_side (omega arith);
      size = field bytes b9 _ (30 + s) (34 + s) at_size (omega arith);
      kind = field bytes b10 _ (34 + s) (38 + s) at_kind (omega arith);
      step = field bytes b11 _ (38 + s) (46 + s) at_step (omega arith);
      least = field bytes b12 _ (46 + s) (54 + s) at_least (omega arith);
      greatest = at_greatest;
    }

number_small : (v : Version) → version_number v < 2 ^ 31
number_small V3 = omega arith
number_small V4 = omega arith

depth_there : (v : Version) (depth : ℕ) (bytes t : List ℕ) → (v ≡ V3 → depth ≡ 1) → depth < 2 ^ 31 → drop 22 bytes ≡ depth_bytes v depth ++ t → depth_at v bytes ≡ pos depth
depth_there V3 depth bytes t flat small there = ap pos (sym (flat refl))
depth_there V4 depth bytes t flat small there = i32_there bytes t 22 depth small there

record IsFew (rows cols depth : ℕ) : Type 0 where
  pub rows_few : rows ≤ 16777216
  pub cols_few : cols ≤ 16777216
  pub pixels_few : rows * cols ≤ 16777216

shape_few : (rows cols depth : ℕ) → IsShape rows cols depth → IsFew rows cols depth
shape_few rows cols depth shape =
    let deep : rows * cols * 1 ≤ rows * cols * depth = mul-le-mul_left (rows * cols) shape.depth_above in
    let wide : rows * 1 ≤ rows * cols = mul-le-mul_left rows shape.cols_above in
    let high : 1 * cols ≤ rows * cols = mul-le-mul_right cols shape.rows_above in
    record { rows_few = omega (arith, deep, wide, shape.size); cols_few = omega (arith, deep, high, shape.size); pixels_few = omega (arith, deep, shape.size) }

range_there : (bytes t u : List ℕ) (s : ℕ) (kind : PixelType) (valid : ℕ) (least greatest : ℤ) → AreEnds kind valid least greatest
    → drop (46 + s) bytes ≡ little_bytes 8 (half_bits (pos 2 *ℤ least)) ++ u → drop (54 + s) bytes ≡ little_bytes 8 (half_bits (pos 2 *ℤ greatest)) ++ t → RangeAt bytes (46 + s) kind valid least greatest
range_there bytes t u s kind valid least greatest (inl ends) first second =
    let small = ends_small kind valid least greatest (inl ends) in
    let place : 46 + s + 8 ≡ 54 + s = omega arith in
    inl (
      ends.0,
      record {
        z_min = double_there bytes u (46 + s) (pos 2 *ℤ least) (twice_small least small.least_small) first;
        least_in_range = ends.1;
        z_max = double_there bytes t (46 + s + 8) (pos 2 *ℤ greatest) (twice_small greatest small.greatest_small) (ap (λ p. drop p bytes) place ∙ second);
        greatest_in_range = ends.2;
        in_order = ends.3;
      },
    )
range_there bytes t u s kind valid least greatest (inr none) first second = inr none

pub head_stands : (h : Header) (t : List ℕ) → IsHeader h → HeadAt (head_bytes h ++ t) h
head_stands h t is =
    let bytes = head_bytes h ++ t in
    let s = shift h.version in
    let tails = has_tails h bytes t refl in
    let few = shape_few h.rows h.cols h.depth is.shape in
    record {
      long = omega (arith, length-append (head_bytes h) t, length-head h);
      key = ap (take 6) tails.key ∙ take_at (codes "Lerc2 ") (drop 6 bytes) 6 refl;
      version = i32_there bytes (drop 10 bytes) 6 (version_number h.version) (number_small h.version) tails.version;
      checksum = sym (u32_there bytes (drop 14 bytes) 10 h.checksum is.checksum_fits tails.checksum);
      rows = i32_there bytes (drop 18 bytes) 14 h.rows (omega (arith, few.rows_few)) tails.rows;
      cols = i32_there bytes (drop 22 bytes) 18 h.cols (omega (arith, few.cols_few)) tails.cols;
      depth = depth_there h.version h.depth bytes (drop (22 + s) bytes) is.flat (omega (arith, is.shape.depth_below)) tails.depth;
      shape = is.shape;
      valid = i32_there bytes (drop (26 + s) bytes) (22 + s) h.valid (omega (arith, few.pixels_few, is.valid_below)) tails.valid;
      valid_below = is.valid_below;
      side = i32_there bytes (drop (30 + s) bytes) (26 + s) h.side is.side_fits tails.side;
      side_above = is.side_above;
      size = i32_there bytes (drop (34 + s) bytes) (30 + s) h.size (omega (arith, is.size_below)) tails.size;
      size_above = is.size_above;
      size_below = is.size_below;
      kind = i32_there bytes (drop (38 + s) bytes) (34 + s) (code_of h.kind) (omega (arith, code_below h.kind)) tails.kind;
      step = double_there bytes (drop (46 + s) bytes) (38 + s) (pos h.step) (omega (arith, is.step_allowed.below)) tails.step;
      step_allowed = is.step_allowed;
      range = range_there bytes t (drop (54 + s) bytes) s h.kind h.valid h.least h.greatest is.ends tails.least tails.greatest;
    }

pub field-checksum : (h : Header) (sum : ℕ) → field_bytes (record h { checksum = sum }) ≡ field_bytes h
unfolding field_bytes
field-checksum h sum = refl
