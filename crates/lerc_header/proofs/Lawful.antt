-- A header that is read passes every test as a record of numbers, and its numbers fit their fields.
use Rattle.std.proofs.Common.{◌≡◌, ℕ, ℤ, pos, ◌+◌, ◌^◌, ◌<◌, List, drop, get_or, refl, sym, ap, ◌∙◌, subst, arith, inl, inr}
use Rattle.std.proofs.lemmas.Int.{ints}
use Rattle.std.proofs.lemmas.Bool.Decides.{nat_tests}
use Rattle.std.proofs.lemmas.List.{get_or-drop}
use Rattle.byteorder.specs.Endian.{little_number, twos_complement}
use Rattle.byteorder.specs.Numbers.{little_from-lt}
use Rattle.raster_cells.specs.declared.kind.PixelType.{PixelType}
use Rattle.lerc_header.specs.declared.header.Version.{Version}
use Rattle.lerc_header.specs.declared.header.Version.TheVariants.{V3}
use Rattle.lerc_header.specs.declared.header.Header.{Header}
use Rattle.lerc_header.specs.Head.{HeadAt, RangeAt, i32_at, u32_at, shift, depth_at}
use Rattle.lerc_header.specs.Written.{IsHeader, AreEnds}
use Rattle.lerc_header.proofs.HeadLemmas.{number_once}

abbrev AreBytes : List ℕ → Type 0
AreBytes bytes = (i : ℕ) → get_or bytes i 0 < 256

little_below : (bytes : List ℕ) (place : ℕ) → AreBytes bytes → little_number 4 (drop place bytes) < 2 ^ 32
little_below bytes place are =
    little_from-lt 0 4 (drop place bytes) (λ k. (let e : get_or (drop place bytes) k 0 ≡ get_or bytes (place + k) 0 = get_or-drop place bytes k 0 in subst (λ b. b < 256) (sym e) (are (place + k))))

-- a number of four bytes that is not negative is below 2 ^ 31
positive_below : (x n : ℕ) → x < 2 ^ 32 → twos_complement 4 x ≡ pos n → n < 2 ^ 31
positive_below x n below is = grind (arith, nat_tests, ints)

i32_below : (bytes : List ℕ) (place n : ℕ) → AreBytes bytes → i32_at bytes place ≡ pos n → n < 2 ^ 31
unfolding i32_at
i32_below bytes place n are is = positive_below (little_number 4 (drop place bytes)) n (little_below bytes place are) is

u32_below : (bytes : List ℕ) (place : ℕ) → AreBytes bytes → u32_at bytes place < 2 ^ 32
unfolding u32_at
u32_below bytes place are = little_below bytes place are

range_ends : (bytes : List ℕ) (place : ℕ) (kind : PixelType) (valid : ℕ) (least greatest : ℤ) → RangeAt bytes place kind valid least greatest → AreEnds kind valid least greatest
range_ends bytes place kind valid least greatest (inl u) = inl (u.0, u.1.least_in_range, u.1.greatest_in_range, u.1.in_order)
range_ends bytes place kind valid least greatest (inr u) = inr u

flat_of : (v : Version) (bytes : List ℕ) (depth : ℕ) → depth_at v bytes ≡ pos depth → v ≡ V3 → depth ≡ 1
flat_of v bytes depth is three = number_once depth 1 (pos 1) (sym (ap (λ w. depth_at w bytes) three) ∙ is) refl

pub lawful_head : (bytes : List ℕ) (h : Header) → AreBytes bytes → HeadAt bytes h → IsHeader h
lawful_head bytes h are head = record {
  checksum_fits = subst (λ n. n < 2 ^ 32) (sym head.checksum) (u32_below bytes 10 are);
  shape = head.shape;
  flat = flat_of h.version bytes h.depth head.depth;
  valid_below = head.valid_below;
  side_above = head.side_above;
  side_fits = i32_below bytes (26 + shift h.version) h.side are head.side;
  size_above = head.size_above;
  size_below = head.size_below;
  step_allowed = head.step_allowed;
  ends = range_ends bytes (46 + shift h.version) h.kind h.valid h.least h.greatest head.range;
}
