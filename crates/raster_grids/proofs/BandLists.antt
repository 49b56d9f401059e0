-- Bands that stand behind one head.
use Rattle.std.proofs.Common.{[], ℕ, suc, List, ◌∷◌, ◌≡◌, ap, sym, ◌∙◌, ◌+◌, ◌*◌, ◌≤◌, length, subst, arith}
use Rattle.std.specs.Prelude.{All}
use Rattle.std.proofs.lemmas.List.Elements.{All-nil, All-cons}
use Rattle.std.proofs.Math.Nat.{mul-le-mul_right}
use Rattle.first_fault.specs.Faults.{Numbered}
use Rattle.raster_values.specs.Raster.{Pixels, IsRaster}
use Rattle.raster_values.specs.Places.{SameShape}
use Rattle.raster_values.specs.Bands.{IsLike, AreLike, MayBeBands, AreBands}
use Rattle.raster_grids.specs.declared.reading.Head.{Head}
use Rattle.raster_grids.specs.BandsGrid.{IsBandGrid}
use Rattle.raster_grids.proofs.GridParts.{head_in}

all_sound : (h : Head) (k : ℕ) (bytes : List ℕ) (xs : List Pixels) → Numbered (λ k. IsBandGrid h) k bytes xs → All IsRaster xs
all_sound h k bytes [] n = All-nil IsRaster
all_sound h k bytes (x ∷ xs) (front, (rest, (joined, (stands, more)))) = All-cons IsRaster x xs stands.raster (all_sound h (suc k) rest xs more)

same_shape : (r s : Pixels) → head_in r ≡ head_in s → SameShape r s
same_shape r s e = record {
  kind = ap (λ (h : Head). h.kind) e;
  rows = ap (λ (h : Head). h.rows) e;
  cols = ap (λ (h : Head). h.cols) e;
  depth = ap (λ (h : Head). h.depth) e;
}

all_like : (h : Head) (r : Pixels) (k : ℕ) (bytes : List ℕ) (xs : List Pixels) → head_in r ≡ h → Numbered (λ k. IsBandGrid h) k bytes xs → All (IsLike r) xs
all_like h r k bytes [] is n = All-nil (IsLike r)
all_like h r k bytes (x ∷ xs) is (front, (rest, (joined, (stands, more)))) = All-cons (IsLike r) x xs (same_shape x r (stands.shape ∙ sym is)) (all_like h r (suc k) rest xs is more)

are_like : (h : Head) (k : ℕ) (bytes : List ℕ) (xs : List Pixels) (n : ℕ) → Numbered (λ k. IsBandGrid h) k bytes xs → length xs ≤ n → n * (h.rows * h.cols * h.depth) ≤ 16777216 → AreLike xs
are_like h k bytes [] n stand fewer small = tt
are_like h k bytes (r ∷ xs) n (front, (rest, (joined, (stands, more)))) fewer small =
    let size : r.rows * r.cols * r.depth ≡ h.rows * h.cols * h.depth = ap (λ (g : Head). g.rows * g.cols * g.depth) stands.shape in
    let up : (1 + length xs) * (h.rows * h.cols * h.depth) ≤ n * (h.rows * h.cols * h.depth) = mul-le-mul_right (h.rows * h.cols * h.depth) (omega (arith, fewer)) in
    let all : (1 + length xs) * (h.rows * h.cols * h.depth) ≤ 16777216 = omega (arith, up, small) in
    (all_like h r (suc k) rest xs stands.shape more, subst (λ m. (1 + length xs) * m ≤ 16777216) (sym size) all)

-- as many as a lawful number of bands says
pub may_be : (h : Head) (bytes : List ℕ) (xs : List Pixels) (n : ℕ) → Numbered (λ k. IsBandGrid h) 0 bytes xs → length xs ≤ n → n ≤ 16 → n * (h.rows * h.cols * h.depth) ≤ 16777216 → MayBeBands xs
may_be h bytes xs n stand fewer most small = record { few = omega arith; sound = all_sound h 0 bytes xs stand; like = are_like h 0 bytes xs n stand fewer small }

-- one raster
pub one_is_bands : (r : Pixels) → IsRaster r → AreBands (r ∷ [])
one_is_bands r h =
    let size = h.shape.size in
    (omega arith, record { few = omega arith; sound = All-cons IsRaster r [] h (All-nil IsRaster); like = (All-nil (IsLike r), omega (arith, size)) })
