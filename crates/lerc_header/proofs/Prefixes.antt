-- What a header and its first fault depend on: the bytes of the header alone.
use Rattle.std.proofs.Common.{◌≡◌, ℕ, ℤ, pos, ◌+◌, ◌≤◌, ◌*ℤ◌, List, ◌++◌, length, take, drop, refl, sym, ◌∙◌, subst, arith, inl, inr}
use Rattle.std.proofs.lemmas.List.{length-append, take-append-drop, take-append-le}
use Rattle.raster_cells.specs.declared.kind.PixelType.{PixelType}
use Rattle.double_bits.specs.Halves.{HalfDouble}
use Rattle.lerc_header.specs.declared.header.Version.{Version}
use Rattle.lerc_header.specs.declared.header.Version.TheVariants.{V3, V4}
use Rattle.lerc_header.specs.declared.header.Header.{Header}
use Rattle.lerc_header.specs.Head.{HeadAt, RangeAt, i32_at, u32_at, double_at, shift, head_length, depth_at}
use Rattle.lerc_header.proofs.Fronts.{i32_front, u32_front, double_front}

-- ---- the bytes of a header

-- two lists of bytes have the same numbers in their first n bytes
pub record HaveSame (n : ℕ) (a b : List ℕ) : Type 0 where
  pub key : take 6 a ≡ take 6 b
  pub i32 : (place : ℕ) → place + 4 ≤ n → i32_at a place ≡ i32_at b place
  pub u32 : (place : ℕ) → place + 4 ≤ n → u32_at a place ≡ u32_at b place
  pub double : (place : ℕ) → place + 8 ≤ n → double_at a place ≡ double_at b place

pub same_front : (n : ℕ) (a s : List ℕ) → 6 ≤ n → n ≤ length a → HaveSame n a (a ++ s)
same_front n a s six long = record {
  key = sym (take-append-le 6 a s (omega (arith, six, long)));
  i32 = λ place within. sym (i32_front a s place (omega (arith, within, long)));
  u32 = λ place within. sym (u32_front a s place (omega (arith, within, long)));
  double = λ place within. sym (double_front a s place (omega (arith, within, long)));
}

pub same_back : (n : ℕ) (a b : List ℕ) → HaveSame n a b → HaveSame n b a
same_back n a b h = record {
  key = sym h.key;
  i32 = λ place within. sym (h.i32 place within);
  u32 = λ place within. sym (h.u32 place within);
  double = λ place within. sym (h.double place within);
}

pub same_depth : (v : Version) (a b : List ℕ) → HaveSame (head_length v) a b → depth_at v a ≡ depth_at v b
same_depth V3 a b h = refl
same_depth V4 a b h = h.i32 22 (omega arith)

same_range : (n place : ℕ) (a b : List ℕ) (kind : PixelType) (valid : ℕ) (least greatest : ℤ) → place + 16 ≤ n → HaveSame n a b → RangeAt a place kind valid least greatest → RangeAt b place kind valid least greatest
same_range n place a b kind valid least greatest within h (inl u) = inl (
  u.0,
  record {
    z_min = subst (λ (bits : ℕ). HalfDouble bits (pos 2 *ℤ least)) (h.double place (omega (arith, within))) u.1.z_min;
    least_in_range = u.1.least_in_range;
    z_max = subst (λ (bits : ℕ). HalfDouble bits (pos 2 *ℤ greatest)) (h.double (place + 8) (omega (arith, within))) u.1.z_max;
    greatest_in_range = u.1.greatest_in_range;
    in_order = u.1.in_order;
  },
)
same_range n place a b kind valid least greatest within h (inr u) = inr u

pub same_head : (a b : List ℕ) (h : Header) → HaveSame (head_length h.version) a b → head_length h.version ≤ length b → HeadAt a h → HeadAt b h
same_head a b h s long head =
    let v = h.version in
    record {
      long = long;
      key = sym s.key ∙ head.key;
      version = sym (s.i32 6 (omega arith)) ∙ head.version;
      checksum = head.checksum ∙ s.u32 10 (omega arith);
      rows = sym (s.i32 14 (omega arith)) ∙ head.rows;
      cols = sym (s.i32 18 (omega arith)) ∙ head.cols;
      depth = sym (same_depth v a b s) ∙ head.depth;
      shape = head.shape;
      valid = sym (s.i32 (22 + shift v) (omega arith)) ∙ head.valid;
      valid_below = head.valid_below;
      side = sym (s.i32 (26 + shift v) (omega arith)) ∙ head.side;
      side_above = head.side_above;
      size = sym (s.i32 (30 + shift v) (omega arith)) ∙ head.size;
      size_above = head.size_above;
      size_below = head.size_below;
      kind = sym (s.i32 (34 + shift v) (omega arith)) ∙ head.kind;
      step = subst (λ (bits : ℕ). HalfDouble bits (pos h.step)) (s.double (38 + shift v) (omega arith)) head.step;
      step_allowed = head.step_allowed;
      range = same_range (head_length v) (46 + shift v) a b h.kind h.valid h.least h.greatest (omega arith) s head.range;
    }

-- a header is one whatever follows it
pub head_more : (a s : List ℕ) (h : Header) → HeadAt a h → HeadAt (a ++ s) h
head_more a s h head = same_head a (a ++ s) h (same_front (head_length h.version) a s (omega arith) head.long) (omega (arith, head.long, length-append a s)) head

-- a header lies in its own bytes
pub head_less : (a s : List ℕ) (h : Header) → head_length h.version ≤ length a → HeadAt (a ++ s) h → HeadAt a h
head_less a s h long head = same_head (a ++ s) a h (same_back _ a (a ++ s) (same_front (head_length h.version) a s (omega arith) long)) long head

pub head_of_take : (n : ℕ) (bytes : List ℕ) (h : Header) → HeadAt (take n bytes) h → HeadAt bytes h
head_of_take n bytes h head = subst (λ (u : List ℕ). HeadAt u h) (take-append-drop n bytes) (head_more (take n bytes) (drop n bytes) h head)

pub head_in_take : (n : ℕ) (bytes : List ℕ) (h : Header) → head_length h.version ≤ length (take n bytes) → HeadAt bytes h → HeadAt (take n bytes) h
head_in_take n bytes h long head = head_less (take n bytes) (drop n bytes) h long (subst (λ (u : List ℕ). HeadAt u h) (sym (take-append-drop n bytes)) head)
