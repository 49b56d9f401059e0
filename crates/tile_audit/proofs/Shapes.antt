-- How many pixels bands have.
use Rattle.std.proofs.Common.{◌≡◌, ℕ, ◌+◌, ◌*◌, ◌<◌, ◌≤◌, List, [], ◌∷◌, length, get_or, take, drop, inl, inr, min, ◌-◌, sym, ap, subst, ◌∙◌, arith, Some}
use Rattle.std.specs.Prelude.{slice_get, sum_by}
use Rattle.std.proofs.Math.Nat.{le-mul_of_pos_right, mul-le-mul_left}
use Rattle.std.proofs.lemmas.List.{drop_all, length-drop, take_all, take_more}
use Rattle.std.proofs.lemmas.Bool.{cases_lt}
use Rattle.std.proofs.lemmas.Option.{get_or_from_slice_get}
use Rattle.std.proofs.lemmas.List.Sums.{sum_by_push}
use Rattle.raster_values.specs.Bands.{AreBands}
use Rattle.raster_values.specs.Raster.{Pixels}

fewer : (rows cols depth n : ℕ) → 0 < depth → n * (rows * cols * depth) ≤ 16777216 → rows * cols * n ≤ 16777216
fewer rows cols depth n some few =
    let one : rows * cols ≤ rows * cols * depth = le-mul_of_pos_right (rows * cols) some in
    let more : n * (rows * cols) ≤ n * (rows * cols * depth) = mul-le-mul_left n one in
    let turn : rows * cols * n ≡ n * (rows * cols) = grind arith in
    omega (arith, more, few, turn)

pub few_pixels : (r : Pixels) (more : List Pixels) → AreBands (r ∷ more) → r.rows * r.cols * length (r ∷ more) ≤ 16777216
few_pixels r more are =
    let sound = are.1.sound 0 r (omega arith) in
    let few : (1 + length more) * (r.rows * r.cols * r.depth) ≤ 16777216 = are.1.like.1 in
    fewer r.rows r.cols r.depth (length (r ∷ more)) sound.shape.depth_above (subst (λ (n : ℕ). n * (r.rows * r.cols * r.depth) ≤ 16777216) (let e : 1 + length more ≡ length (r ∷ more) = omega arith in e) few)

-- one band more
pub sum_more : (f : Pixels → ℕ) (xs : List Pixels) (i : ℕ) (x : Pixels) → i < length xs → slice_get xs i ≡ Some x → sum_by f (take (i + 1) xs) ≡ sum_by f (take i xs) + f x
sum_more f xs i x below is =
    ap (λ l. sum_by f l) (take_more xs i x below) ∙ sum_by_push f (take i xs) (get_or xs i x) ∙ ap (λ y. sum_by f (take i xs) + f y) (get_or_from_slice_get xs i x x is)

-- the bytes that a sum is of
pub tail_of : (bytes : List ℕ) (m : ℕ) → m ≡ min (length bytes) 14 → take (length bytes - m) (drop m bytes) ≡ drop 14 bytes
tail_of bytes m is = elim (cases_lt (length bytes) 14) [
  | inl short ↦
      (let all : m ≡ length bytes = omega (arith, is, short) in
      ap (λ l. take (length bytes - m) l) (drop_all m bytes (omega (arith, all))) ∙ take_all (length bytes - m) [] (omega arith) ∙ sym (drop_all 14 bytes (omega (arith, short))))
  | inr long ↦
      (let some : m ≡ 14 = omega (arith, is, long) in
      ap (λ n. take (length bytes - n) (drop n bytes)) some ∙ take_all (length bytes - 14) (drop 14 bytes) (omega (arith, length-drop 14 bytes)))
]

pub few_of : (bands : List Pixels) (first : Pixels) → AreBands bands → slice_get bands 0 ≡ Some first → first.rows * first.cols * length bands ≤ 16777216
few_of [] first are is = absurd (omega (arith, are.0))
few_of (r ∷ more) first are is =
    let same : r ≡ first = get_or_from_slice_get (r ∷ more) 0 first first is in
    subst (λ (p : Pixels). p.rows * p.cols * length (r ∷ more) ≤ 16777216) same (few_pixels r more are)
