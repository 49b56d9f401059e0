-- Laws of headers: which bytes have one, that they have at most one, and what holds of each.
use Rattle.std.proofs.Common.{◌≡◌, ℕ, ℤ, pos, ◌+◌, ◌*◌, ◌<◌, ◌≤◌, ◌*ℤ◌, ◌≤ℤ◌, List, refl, sym, ap, ◌∙◌, subst, arith, ⊎_elim}
use Rattle.std.proofs.lemmas.Int.{ints}
use Rattle.std.proofs.Math.Nat.{mul-le-mul_left}
use Rattle.raster_cells.specs.declared.kind.PixelType.{PixelType}
use Rattle.raster_cells.specs.declared.kind.PixelType.TheVariants.{I8, U8, I16, U16, I32, U32}
use Rattle.raster_cells.specs.PixelType.{InRange, code_of}
use Rattle.double_bits.specs.Halves.{HalfDouble}
use Rattle.double_bits.proofs.OneHalf.{one_half}
use Rattle.lerc_header.specs.declared.header.Version.{Version}
use Rattle.lerc_header.specs.declared.header.Version.TheVariants.{V3, V4}
use Rattle.lerc_header.specs.declared.header.Header.{Header}
use Rattle.lerc_header.specs.Head.{HeadAt, HasRange, RangeAt, i32_at, double_at, shift, version_number, depth_at}

-- ---- at most one header

pub number_once : (a b : ℕ) (z : ℤ) → z ≡ pos a → z ≡ pos b → a ≡ b
number_once a b z f g = let e : pos a ≡ pos b = sym f ∙ g in cc

version_once : (v w : Version) → version_number v ≡ version_number w → v ≡ w
version_once V3 V3 e = refl
version_once V3 V4 e = absurd (omega arith)
version_once V4 V3 e = absurd (omega arith)
version_once V4 V4 e = refl

pub kind_once : (j k : PixelType) → code_of j ≡ code_of k → j ≡ k
kind_once I8 I8 e = refl
kind_once I8 U8 e = absurd (omega arith)
kind_once I8 I16 e = absurd (omega arith)
kind_once I8 U16 e = absurd (omega arith)
kind_once I8 I32 e = absurd (omega arith)
kind_once I8 U32 e = absurd (omega arith)
kind_once U8 I8 e = absurd (omega arith)
kind_once U8 U8 e = refl
kind_once U8 I16 e = absurd (omega arith)
kind_once U8 U16 e = absurd (omega arith)
kind_once U8 I32 e = absurd (omega arith)
kind_once U8 U32 e = absurd (omega arith)
kind_once I16 I8 e = absurd (omega arith)
kind_once I16 U8 e = absurd (omega arith)
kind_once I16 I16 e = refl
kind_once I16 U16 e = absurd (omega arith)
kind_once I16 I32 e = absurd (omega arith)
kind_once I16 U32 e = absurd (omega arith)
kind_once U16 I8 e = absurd (omega arith)
kind_once U16 U8 e = absurd (omega arith)
kind_once U16 I16 e = absurd (omega arith)
kind_once U16 U16 e = refl
kind_once U16 I32 e = absurd (omega arith)
kind_once U16 U32 e = absurd (omega arith)
kind_once I32 I8 e = absurd (omega arith)
kind_once I32 U8 e = absurd (omega arith)
kind_once I32 I16 e = absurd (omega arith)
kind_once I32 U16 e = absurd (omega arith)
kind_once I32 I32 e = refl
kind_once I32 U32 e = absurd (omega arith)
kind_once U32 I8 e = absurd (omega arith)
kind_once U32 U8 e = absurd (omega arith)
kind_once U32 I16 e = absurd (omega arith)
kind_once U32 U16 e = absurd (omega arith)
kind_once U32 I32 e = absurd (omega arith)
kind_once U32 U32 e = refl

whole_once : (bits : ℕ) (y z : ℤ) → HalfDouble bits (pos 2 *ℤ y) → HalfDouble bits (pos 2 *ℤ z) → y ≡ z
whole_once bits y z g h = let e : pos 2 *ℤ y ≡ pos 2 *ℤ z = one_half bits _ _ g h in omega (arith, ints, e)

range_once : (bytes : List ℕ) (place : ℕ) (kind : PixelType) (valid : ℕ) (a b y z : ℤ) → RangeAt bytes place kind valid a b → RangeAt bytes place kind valid y z → (a ≡ y) × (b ≡ z)
range_once bytes place kind valid a b y z g h =
    ⊎_elim
    (λ (u : (0 < valid) × HasRange bytes place kind a b).
    ⊎_elim
    (λ (v : (0 < valid) × HasRange bytes place kind y z). (whole_once _ a y u.1.z_min v.1.z_min, whole_once _ b z u.1.z_max v.1.z_max))
    (λ (v : (valid ≡ 0) × (y ≡ pos 0) × (z ≡ pos 0)). absurd (omega (arith, u.0, v.0)))
    h)
    (λ (u : (valid ≡ 0) × (a ≡ pos 0) × (b ≡ pos 0)).
    ⊎_elim
    (λ (v : (0 < valid) × HasRange bytes place kind y z). absurd (omega (arith, u.0, v.0)))
    (λ (v : (valid ≡ 0) × (y ≡ pos 0) × (z ≡ pos 0)). (u.1 ∙ sym v.1, u.2 ∙ sym v.2))
    h)
    g

-- bytes begin with at most one header
pub one_head : (bytes : List ℕ) (g h : Header) → HeadAt bytes g → HeadAt bytes h → g ≡ h
one_head bytes g h a b =
    let version : g.version ≡ h.version = version_once g.version h.version (number_once _ _ _ a.version b.version) in
    let s = shift g.version in
    let t : shift h.version ≡ s = ap shift (sym version) in
    let same : (n : ℕ) → i32_at bytes (n + shift h.version) ≡ i32_at bytes (n + s) = λ n. ap (λ k. i32_at bytes (n + k)) t in
    let rows : g.rows ≡ h.rows = number_once _ _ _ a.rows b.rows in
    let cols : g.cols ≡ h.cols = number_once _ _ _ a.cols b.cols in
    let depth : g.depth ≡ h.depth = number_once _ _ _ a.depth (ap (λ v. depth_at v bytes) version ∙ b.depth) in
    let valid : g.valid ≡ h.valid = number_once _ _ _ a.valid (sym (same 22) ∙ b.valid) in
    let side : g.side ≡ h.side = number_once _ _ _ a.side (sym (same 26) ∙ b.side) in
    let size : g.size ≡ h.size = number_once _ _ _ a.size (sym (same 30) ∙ b.size) in
    let kind : g.kind ≡ h.kind = kind_once g.kind h.kind (number_once _ _ _ a.kind (sym (same 34) ∙ b.kind)) in
    let step_there : HalfDouble (double_at bytes (38 + s)) (pos h.step) = subst (λ k. HalfDouble (double_at bytes (38 + k)) (pos h.step)) t b.step in
    let step : g.step ≡ h.step = number_once _ _ (pos g.step) refl (one_half _ _ _ a.step step_there) in
    let range_there : RangeAt bytes (46 + s) g.kind g.valid h.least h.greatest =
    subst (λ n. RangeAt bytes (46 + s) g.kind n h.least h.greatest) (sym valid) (subst (λ k. RangeAt bytes (46 + s) k h.valid h.least h.greatest) (sym kind) (subst (λ k. RangeAt bytes (46 + k) h.kind h.valid h.least h.greatest) t b.range)) in
    let ends : (g.least ≡ h.least) × (g.greatest ≡ h.greatest) = range_once _ _ _ _ _ _ _ _ a.range range_there in
    let checksum : g.checksum ≡ h.checksum = a.checksum ∙ sym b.checksum in
    λ i. record {
      version = version i;
      checksum = checksum i;
      rows = rows i;
      cols = cols i;
      depth = depth i;
      valid = valid i;
      side = side i;
      size = size i;
      kind = kind i;
      step = step i;
      least = ends.0 i;
      greatest = ends.1 i;
    }

-- ---- what holds of each header

zero_in_range : (kind : PixelType) → InRange kind (pos 0)
zero_in_range I8 = (omega (arith, ints), omega (arith, ints))
zero_in_range U8 = (omega (arith, ints), omega (arith, ints))
zero_in_range I16 = (omega (arith, ints), omega (arith, ints))
zero_in_range U16 = (omega (arith, ints), omega (arith, ints))
zero_in_range I32 = (omega (arith, ints), omega (arith, ints))
zero_in_range U32 = (omega (arith, ints), omega (arith, ints))

-- least and greatest are values of the type, also where no pixel is valid
pub range_of_head : (bytes : List ℕ) (h : Header) → HeadAt bytes h → InRange h.kind h.least × InRange h.kind h.greatest × (h.least ≤ℤ h.greatest)
range_of_head bytes h head =
    ⊎_elim
    (λ (u : (0 < h.valid) × HasRange bytes (46 + shift h.version) h.kind h.least h.greatest). (u.1.least_in_range, u.1.greatest_in_range, u.1.in_order))
    (λ (u : (h.valid ≡ 0) × (h.least ≡ pos 0) × (h.greatest ≡ pos 0)).
    (subst (InRange h.kind) (sym u.1) (zero_in_range h.kind), subst (InRange h.kind) (sym u.2) (zero_in_range h.kind), omega (arith, ints, u.1, u.2)))
    head.range

-- rows times cols is at most 2 ^ 24
pub pixels_of_head : (bytes : List ℕ) (h : Header) → HeadAt bytes h → h.rows * h.cols ≤ 16777216
pixels_of_head bytes h head =
    let once : h.rows * h.cols * 1 ≤ h.rows * h.cols * h.depth = mul-le-mul_left (h.rows * h.cols) head.shape.depth_above in
    omega (arith, once, head.shape.size)
