-- The blobs of bands are no longer than type and shape allow, nor than 2 ^ 27 bytes.
use Rattle.std.proofs.Common.{◌≡◌, ℕ, ◌+◌, ◌*◌, ◌/◌, ◌≤◌, List, [], ◌∷◌, length, Some, All, ap, arith, length-append}
use Rattle.std.specs.Prelude.{sum_by}
use Rattle.std.proofs.Math.Nat.{mul-le-mul_left, mul-le-mul_right}
use Rattle.std.proofs.lemmas.List.Elements.{All-nil, All-cons, All-head, All-tail}
use Rattle.std.proofs.lemmas.List.Sums.{sum_by-cons, sum_by-le}
use Rattle.raster_values.specs.Raster.{Pixels, IsRaster}
use Rattle.raster_values.specs.Bands.{IsLike}
use Rattle.raster_cells.specs.PixelType.{bytes_of}
use Rattle.raster_cells.proofs.Spelled.{few_bytes}
use Rattle.lerc_grammar.specs.Mask.{previous_of}
use Rattle.lerc_encode.specs.Choice.{chosen_after, chosen_bands}
use Rattle.lerc_encode.specs.Sizes.{BandsAreSmall, TilesAreSmall, greatest_size}
use Rattle.lerc_encode.proofs.Small.{after_small}

abbrev size_of : Pixels → ℕ
size_of r = greatest_size r.kind r.rows r.cols r.depth

pub bands_small : BandsAreSmall
bands_small before [] version step sound = omega arith
bands_small before (r ∷ more) version step sound =
    let first = after_small before r version step (All-head IsRaster r more sound) in
    let later = bands_small (Some (previous_of r)) more version step (All-tail IsRaster r more sound) in
    let joined = length-append (chosen_after before r version step) (chosen_bands (Some (previous_of r)) more version step) in
    let all = sum_by-cons size_of r more in
    omega (arith, first, later, joined, all)

-- like rasters have one greatest size
like_small : (r : Pixels) (bands : List Pixels) → All (IsLike r) bands → All (λ x. size_of x ≤ size_of r) bands
like_small r [] all = All-nil (λ x. size_of x ≤ size_of r)
like_small r (x ∷ more) all =
    let like = All-head (IsLike r) x more all in
    let one : size_of x ≡ size_of r = (λ t. greatest_size (like.kind t) (like.rows t) (like.cols t) (like.depth t)) in
    All-cons (λ x. size_of x ≤ size_of r) x more (omega (arith, one)) (like_small r more (All-tail (IsLike r) x more all))

-- n bands of so many pixels, depths and bytes a value
few_bands : (n pixels depth width : ℕ) → n ≤ 16 → 1 ≤ depth → depth ≤ 65536 → width ≤ 4 → n * (pixels * depth) ≤ 16777216
    → n * (70 + (3 * ((pixels + 7) / 8) + 2) + 2 * (depth * width) + (1 + pixels * depth * width)) ≤ 134217728
few_bands n pixels depth width few some deep wide all =
    let eighth = (pixels + 7) / 8 in
    let places : n * (pixels * 1) ≤ n * (pixels * depth) = mul-le-mul_left n (mul-le-mul_left pixels some) in
    let flat : n * (pixels * 1) ≡ n * pixels = ap (λ k. n * k) (let e : pixels * 1 ≡ pixels = omega arith in e) in
    let byte : 8 * eighth ≤ pixels + 7 = omega arith in
    let bytes : n * (8 * eighth) ≤ n * (pixels + 7) = mul-le-mul_left n byte in
    let b1 : n * (8 * eighth) ≡ 8 * (n * eighth) = omega arith in
    let b2 : n * (pixels + 7) ≡ n * pixels + 7 * n = omega arith in
    let ends : depth * width ≤ 65536 * 4 = by_both depth 65536 width 4 deep wide in
    let most : n * (depth * width) ≤ 16 * (65536 * 4) = by_both n 16 (depth * width) (65536 * 4) few ends in
    let values : n * (pixels * depth) * width ≤ 16777216 * 4 = by_both (n * (pixels * depth)) 16777216 width 4 all wide in
    let joined : n * (pixels * depth * width) ≡ n * (pixels * depth) * width = omega arith in
    let parts : n * (70 + (3 * eighth + 2) + 2 * (depth * width) + (1 + pixels * depth * width)) ≡ 73 * n + 3 * (n * eighth) + 2 * (n * (depth * width)) + n * (pixels * depth * width) = omega arith in
    omega (arith, parts, joined, values, most, bytes, b1, b2, places, flat, all, few)
  where
    by_both : (a b x y : ℕ) → a ≤ b → x ≤ y → a * x ≤ b * y
    by_both a b x y h l =
        let p : a * x ≤ a * y = mul-le-mul_left a l in
        let q : a * y ≤ b * y = mul-le-mul_right y h in
        omega (arith, p, q)

pub tiles_small : TilesAreSmall
tiles_small before [] version step are = omega arith
tiles_small before (r ∷ more) version step are =
    let sound = are.1.sound in
    let shape = (All-head IsRaster r more sound).shape in
    let total = bands_small before (r ∷ more) version step sound in
    let most : sum_by size_of (r ∷ more) ≤ length (r ∷ more) * size_of r = sum_by-le size_of (size_of r) (r ∷ more) (All-cons (λ x. size_of x ≤ size_of r) r more (omega arith) (like_small r more are.1.like.0)) in
    let bound = few_bands (length (r ∷ more)) (r.rows * r.cols) r.depth (bytes_of r.kind) are.1.few shape.depth_above shape.depth_below (few_bytes r.kind)
    (let limit = are.1.like.1 in omega (arith, limit)) in
    omega (arith, total, most, bound)
