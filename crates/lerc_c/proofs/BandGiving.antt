-- Arrays of bands that are given, part by part.
use Rattle.std.proofs.Common.{◌≡◌, ℕ, ◌+◌, ◌*◌, ◌<◌, ◌≤◌, suc, true, false, cond, List, [], ◌∷◌, ◌++◌, length, take, drop, sym, ap, ◌∙◌, subst, arith, ◌⊎◌, inl, inr, ⊎_elim}
use Rattle.std.specs.Prelude.{All, nat_lt}
use Rattle.std.proofs.lemmas.List.{length-take-le, length-drop}
use Rattle.std.proofs.lemmas.List.Elements.{All-nil, All-cons}
use Rattle.std.proofs.lemmas.Bool.{cases_lt}
use Rattle.std.proofs.lemmas.Bool.Decides.{nat_tests}
use Rattle.std.proofs.Math.Nat.{add-mul, mul-le-mul_left, mul-le-mul_right}
use Rattle.raster_cells.specs.declared.kind.PixelType.{PixelType}
use Rattle.raster_values.specs.Raster.{Pixels, IsRaster}
use Rattle.raster_cells.specs.Shapes.{IsShape}
use Rattle.raster_values.specs.Places.{SameShape}
use Rattle.raster_values.specs.Bands.{IsLike, AreLike, MayBeBands}
use Rattle.lerc_c.specs.Arrays.{GivesSizes, IsGiven, values_size, mask_array_size}
use Rattle.lerc_c.specs.BandArrays.{AreGivenFrom, GiveBandSizes, mask_for, part_at}

-- ---- parts

pub room : (n i size total : ℕ) → i < n → total ≡ n * size → i * size + size ≤ total
room n i size total below is =
    let up : (i + 1) * size ≤ n * size = mul-le-mul_right size (omega (arith, below)) in
    omega (arith, up, is, add-mul i 1 size)

pub mask_room : (n i size masks : ℕ) → i < n → (masks ≡ 0) ⊎ ((masks ≡ size) ⊎ (masks ≡ n * size)) → size < masks → i * size + size ≤ masks
mask_room n i size masks below (inl none) more = absurd (let no : ⊥ = omega (arith, none, more) in no)
mask_room n i size masks below (inr (inl one)) more = absurd (let no : ⊥ = omega (arith, one, more) in no)
mask_room n i size masks below (inr (inr all)) more = room n i size masks below all

part_long : (size i : ℕ) (array : List ℕ) → i * size + size ≤ length array → length (part_at size i array) ≡ size
part_long size i array within = length-take-le size (drop (i * size) array) (omega (arith, within, length-drop (i * size) array))

one_or_all : (n size masks : ℕ) → 1 ≤ n → (masks ≡ 0) ⊎ ((masks ≡ size) ⊎ (masks ≡ n * size)) → masks ≤ size → (masks ≡ 0 → ⊥) → masks ≡ size
one_or_all n size masks least (inl none) few some = absurd (some none)
one_or_all n size masks least (inr (inl one)) few some = one
one_or_all n size masks least (inr (inr all)) few some =
    let up : 1 * size ≤ n * size = mul-le-mul_right size least in
    omega (arith, up, all, few)

mask_long : (n i size : ℕ) (masks : List ℕ) → i < n → (length masks ≡ 0) ⊎ ((length masks ≡ size) ⊎ (length masks ≡ n * size)) → (length (mask_for size i masks) ≡ 0 → ⊥) → length (mask_for size i masks) ≡ size
mask_long n i size masks below sizes some =
    ⊎_elim
    (λ (more : size < length masks).
    let test : nat_lt size (length masks) ≡ true = grind (arith, nat_tests) in
    ap (λ b. length (cond b (part_at size i masks) masks)) test ∙ part_long size i masks (mask_room n i size (length masks) below sizes more))
    (λ (few : length masks ≤ size).
    let test : nat_lt size (length masks) ≡ false = grind (arith, nat_tests) in
    let same : length (mask_for size i masks) ≡ length masks = ap (λ b. length (cond b (part_at size i masks) masks)) test in
    same ∙ one_or_all n size (length masks) (omega (arith, below)) sizes few (λ none. some (same ∙ none)))
    (cases_lt size (length masks))

pub gives : (kind : PixelType) (rows cols depth n i : ℕ) (values masks : List ℕ) → i < n → GiveBandSizes kind rows cols depth n (length values) (length masks)
    → GivesSizes kind rows cols depth (length (part_at (values_size kind rows cols depth) i values)) (length (mask_for (mask_array_size rows cols) i masks))
gives kind rows cols depth n i values masks below sizes = record {
  values_is = part_long (values_size kind rows cols depth) i values (room n i (values_size kind rows cols depth) (length values) below sizes.values_are);
  mask_is = mask_long n i (mask_array_size rows cols) masks below sizes.masks_are;
}

-- the pixels of a shape are few
pub area_few : (rows cols depth : ℕ) → IsShape rows cols depth → rows * cols ≤ 16777216
area_few rows cols depth shape =
    let up : rows * cols * 1 ≤ rows * cols * depth = mul-le-mul_left (rows * cols) (omega (arith, shape.depth_above)) in
    omega (arith, up, shape.size)

-- ---- bands

-- one band more
pub given_more : (kind : PixelType) (rows cols depth : ℕ) (values masks : List ℕ) (k : ℕ) (bands : List Pixels) (r : Pixels) → AreGivenFrom kind rows cols depth values masks k bands
    → IsGiven kind rows cols depth (part_at (values_size kind rows cols depth) (k + length bands) values) (mask_for (mask_array_size rows cols) (k + length bands) masks) r → AreGivenFrom kind rows cols depth values masks k (bands ++ r ∷ [])
given_more kind rows cols depth values masks k [] r given one =
    (subst (λ j. IsGiven kind rows cols depth (part_at (values_size kind rows cols depth) j values) (mask_for (mask_array_size rows cols) j masks) r) (let e : k + 0 ≡ k = omega arith in e) one, tt)
given_more kind rows cols depth values masks k (s ∷ more) r given one = (
  given.0,
  given_more kind rows cols depth values masks (suc k) more r given.1
      (subst (λ j. IsGiven kind rows cols depth (part_at (values_size kind rows cols depth) j values) (mask_for (mask_array_size rows cols) j masks) r) (let e : k + length (s ∷ more) ≡ suc k + length more = omega arith in e) one),
)

all_sound : (kind : PixelType) (rows cols depth : ℕ) (values masks : List ℕ) (k : ℕ) (bands : List Pixels) → AreGivenFrom kind rows cols depth values masks k bands → All IsRaster bands
all_sound kind rows cols depth values masks k [] given = All-nil IsRaster
all_sound kind rows cols depth values masks k (r ∷ more) given =
    let one = given.0 in
    All-cons IsRaster r more one.raster (all_sound kind rows cols depth values masks (suc k) more given.1)

all_like : (kind : PixelType) (rows cols depth : ℕ) (values masks : List ℕ) (k : ℕ) (first : Pixels) (bands : List Pixels) → first.kind ≡ kind → first.rows ≡ rows → first.cols ≡ cols → first.depth ≡ depth
    → AreGivenFrom kind rows cols depth values masks k bands → All (IsLike first) bands
all_like kind rows cols depth values masks k first [] ek er ec ed given = All-nil (IsLike first)
all_like kind rows cols depth values masks k first (r ∷ more) ek er ec ed given =
    let one = given.0 in
    let shape : SameShape r first = record { kind = one.kind_is ∙ sym ek; rows = one.rows_are ∙ sym er; cols = one.cols_are ∙ sym ec; depth = one.depth_is ∙ sym ed } in
    All-cons (IsLike first) r more shape (all_like kind rows cols depth values masks (suc k) first more ek er ec ed given.1)

are_like : (kind : PixelType) (rows cols depth n : ℕ) (values masks : List ℕ) (bands : List Pixels) → AreGivenFrom kind rows cols depth values masks 0 bands → length bands ≤ n → n * (rows * cols * depth) ≤ 16777216 → AreLike bands
are_like kind rows cols depth n values masks [] given fewer small = tt
are_like kind rows cols depth n values masks (r ∷ more) given fewer small =
    let one = given.0 in
    let size : r.rows * r.cols * r.depth ≡ rows * cols * depth = λ i. one.rows_are i * one.cols_are i * one.depth_is i in
    let up : (1 + length more) * (rows * cols * depth) ≤ n * (rows * cols * depth) = mul-le-mul_right (rows * cols * depth) (omega (arith, fewer)) in
    let all : (1 + length more) * (rows * cols * depth) ≤ 16777216 = omega (arith, up, small) in (
      all_like kind rows cols depth values masks 1 r more one.kind_is one.rows_are one.cols_are one.depth_is given.1,
      subst (λ m. (1 + length more) * m ≤ 16777216) (sym size) all,
    )

pub may_be : (kind : PixelType) (rows cols depth n : ℕ) (values masks : List ℕ) (bands : List Pixels) → AreGivenFrom kind rows cols depth values masks 0 bands → length bands ≤ n → n ≤ 16 → n * (rows * cols * depth) ≤ 16777216 → MayBeBands bands
may_be kind rows cols depth n values masks bands given fewer few small = record {
  few = omega (arith, fewer, few);
  sound = all_sound kind rows cols depth values masks 0 bands given;
  like = are_like kind rows cols depth n values masks bands given fewer small;
}
