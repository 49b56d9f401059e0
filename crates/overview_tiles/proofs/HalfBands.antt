-- Bands that are made one behind the other, and a mosaic into which nothing was laid.
use Rattle.std.proofs.Common.{◌≡◌, ℕ, ℤ, zero, suc, ◌+◌, ◌*◌, ◌<◌, ◌≤◌, Bool, true, false, List, [], ◌∷◌, ◌++◌, length, get_or, Some, sym, ap, ◌∙◌, subst, arith, ⊎_elim}
use Rattle.std.specs.Prelude.{pos, All, replicate, slice_get}
use Rattle.std.proofs.lemmas.Bool.{cases_lt}
use Rattle.std.proofs.lemmas.Option.{get_or_from_slice_get, slice_get_within, slice_get-get_or}
use Rattle.std.proofs.lemmas.List.{get_or-replicate, get_or_append_left, get_or_past, get_or_push, length-replicate, length_push}
use Rattle.std.proofs.Math.Nat.{mul-le-mul_right}
use Rattle.std.proofs.lemmas.List.Elements.{All-head, All-tail, All-weaker}
use Rattle.raster_cells.specs.declared.kind.PixelType.{PixelType}
use Rattle.raster_values.specs.Raster.{Pixels, IsRaster, blank}
use Rattle.raster_cells.specs.Shapes.{IsShape}
use Rattle.raster_values.specs.Places.{SameShape}
use Rattle.raster_values.specs.Bands.{AreBands, AreLike, IsLike, MayBeBands}
use Rattle.overview_tiles.specs.Tiles.{AreHalf, Tiles, band_of, no_tiles}
use Rattle.overview_tiles.specs.Sums.{AreBandSums, AreSums, HasShape, IsTileOf, Kept, Sums, no_sums, zero_sums}
use Rattle.overview_tiles.specs.inside.Means.{HasMeans, HaveMeans}
use Rattle.overview_tiles.specs.inside.View.{HasRoom}
use Rattle.overview_tiles.proofs.Tiled.{are_of}
use Rattle.overview_tiles.proofs.Halved.{are_half, have_means}

-- ---- lists

pub each_push : {X : Type 0} (P : ℕ → X → Type 0) (xs : List X) (x : X) → ((b : ℕ) (r : X) → slice_get xs b ≡ Some r → P b r) → P (length xs) x → (b : ℕ) (r : X) → slice_get (xs ++ x ∷ []) b ≡ Some r → P b r
each_push P xs x each last b r e =
    let inside : b < length xs + 1 = (let w = slice_get_within (xs ++ x ∷ []) b r e in omega (arith, w, length_push xs x)) in
    let is : get_or (xs ++ x ∷ []) b r ≡ r = get_or_from_slice_get (xs ++ x ∷ []) b r r e in
    ⊎_elim
    (λ (before : b < length xs).
    let here : get_or xs b r ≡ r = sym (get_or_append_left xs (x ∷ []) r b before) ∙ is in
    each b r (slice_get-get_or xs b r before ∙ ap Some here))
    (λ (behind : length xs ≤ b).
    let at : length xs ≡ b = omega (arith, inside, behind) in
    let same : x ≡ r = sym (get_or_push xs x r b at) ∙ is in
    subst (λ k. P k r) at (subst (P (length xs)) same last))
    (cases_lt b (length xs))

pub each_one : {X : Type 0} (P : ℕ → X → Type 0) (x : X) → P 0 x → (b : ℕ) (r : X) → slice_get (x ∷ []) b ≡ Some r → P b r
each_one P x last b r e = each_push P [] x (λ k s no'. absurd (let no : ⊥ = (let w = slice_get_within [] k s no' in omega (arith, w)) in no)) last b r e

pub all_of : {X : Type 0} (P : X → Type 0) (xs : List X) → ((b : ℕ) (r : X) → slice_get xs b ≡ Some r → P r) → All P xs
all_of P xs each k d less = each k (get_or xs k d) (slice_get-get_or xs k d less)

-- ---- bands of one shape

like_blank : (kind : PixelType) (rows cols depth : ℕ) (r s : Pixels) → SameShape (blank kind rows cols depth) r → SameShape (blank kind rows cols depth) s → IsLike r s
like_blank kind rows cols depth r s a b = record { kind = sym b.kind ∙ a.kind; rows = sym b.rows ∙ a.rows; cols = sym b.cols ∙ a.cols; depth = sym b.depth ∙ a.depth }

are_like : (kind : PixelType) (rows cols depth : ℕ) (bands : List Pixels) → All (SameShape (blank kind rows cols depth)) bands → length bands * (rows * cols * depth) ≤ 16777216 → AreLike bands
are_like kind rows cols depth [] all small = tt
are_like kind rows cols depth (r ∷ more) all small =
    let first : SameShape (blank kind rows cols depth) r = All-head (SameShape (blank kind rows cols depth)) r more all in
    let size : rows * cols * depth ≡ r.rows * r.cols * r.depth = ap (λ n. n * cols * depth) first.rows ∙ ap (λ n. r.rows * n * depth) first.cols ∙ ap (λ n. r.rows * r.cols * n) first.depth in
    let count : suc (length more) ≡ 1 + length more = omega arith in (
      All-weaker (SameShape (blank kind rows cols depth)) (IsLike r) (λ s b. like_blank kind rows cols depth r s first b) more (All-tail (SameShape (blank kind rows cols depth)) r more all),
      subst (λ n. (1 + length more) * n ≤ 16777216) size (subst (λ n. n * (rows * cols * depth) ≤ 16777216) count small),
    )

pub may_be : (kind : PixelType) (rows cols depth : ℕ) (bands : List Pixels) → length bands ≤ 16 → All IsRaster bands → All (SameShape (blank kind rows cols depth)) bands → length bands * (rows * cols * depth) ≤ 16777216 → MayBeBands bands
may_be kind rows cols depth bands few sound all small = record { few = few; sound = sound; like = are_like kind rows cols depth bands all small }

-- each of them has the means of its numbers
abbrev pub EachHas : PixelType → ℕ → ℕ → ℕ → List Sums → List Pixels → Type 0
EachHas kind rows cols depth layers half = (b : ℕ) (r : Pixels) → slice_get half b ≡ Some r → HasMeans kind rows cols depth (get_or layers b no_sums) r

pub each_may_be : (kind : PixelType) (rows cols depth n : ℕ) (layers : List Sums) (half : List Pixels) → n ≤ 16 → n * (rows * cols * depth) ≤ 16777216 → length half ≤ n → EachHas kind rows cols depth layers half → MayBeBands half
each_may_be kind rows cols depth n layers half few small size each =
    let less : length half * (rows * cols * depth) ≤ n * (rows * cols * depth) = mul-le-mul_right (rows * cols * depth) size in
    may_be kind rows cols depth half (omega (arith, few, size)) (all_of IsRaster half (λ b r e. (each b r e).raster)) (all_of (SameShape (blank kind rows cols depth)) half (λ b r e. (each b r e).shape)) (omega (arith, less, small))

-- ---- nothing laid

zero_at : (n k : ℕ) → ◌≡◌ {A = ℕ} (get_or (replicate n zero) k zero) zero
zero_at n k = ⊎_elim (λ (less : k < n). get_or-replicate n k zero zero less) (λ (past : n ≤ k). get_or_past (replicate n zero) k zero (omega (arith, past, length-replicate {A = ℕ} n zero))) (cases_lt k n)

pos_at : (n k : ℕ) → get_or (replicate n (pos 0)) k (pos 0) ≡ pos 0
pos_at n k = ⊎_elim (λ (less : k < n). get_or-replicate n k (pos 0) (pos 0) less) (λ (past : n ≤ k). get_or_past (replicate n (pos 0)) k (pos 0) (omega (arith, past, length-replicate {A = ℤ} n (pos 0)))) (cases_lt k n)

pub zero_band : (rows cols depth b : ℕ) → AreBandSums rows cols depth (band_of b no_tiles) (zero_sums (rows * cols) depth)
zero_band rows cols depth b = record {
  counts = λ row col below beside. zero_at (rows * cols) (row * cols + col);
  sums = λ row col d below beside deep. pos_at (rows * cols * depth) ((row * cols + col) * depth + d);
}

pub zero_layers : (m : Kept) (n : ℕ) → m.laid ≡ replicate 4 false → m.bands ≡ replicate n (zero_sums (m.rows * m.cols) m.depth) → AreSums m no_tiles
zero_layers m n laid bands = record {
  alike = λ q. tt;
  laid = λ q less. ap (λ (xs : List Bool). get_or xs q true) laid ∙ get_or-replicate 4 q false true less;
  each = λ b less.
      let z = zero_sums (m.rows * m.cols) m.depth in
      let size : length m.bands ≡ n = ap length bands ∙ length-replicate n z in
      let is : get_or m.bands b no_sums ≡ z = ap (λ (xs : List Sums). get_or xs b no_sums) bands ∙ get_or-replicate n b z no_sums (omega (arith, less, size)) in
      subst (AreBandSums m.rows m.cols m.depth (band_of b no_tiles)) (sym is) (zero_band m.rows m.cols m.depth b);
}

first_size : (like : List Pixels) (first : Pixels) → AreBands like → slice_get like 0 ≡ Some first → length like * (first.rows * first.cols * first.depth) ≤ 16777216
first_size [] first bands e = absurd (let no : ⊥ = omega (arith, bands.0) in no)
first_size (r ∷ more) first bands e =
    let same : r ≡ first = get_or_from_slice_get (r ∷ more) 0 first first e in
    let count : 1 + length more ≡ suc (length more) = omega arith in
    subst (λ n. n * (first.rows * first.cols * first.depth) ≤ 16777216) count (subst (λ (s : Pixels). (1 + length more) * (s.rows * s.cols * s.depth) ≤ 16777216) same bands.1.like.1)

pub zero_room : (m : Kept) (like : List Pixels) (first : Pixels) → AreBands like → slice_get like 0 ≡ Some first → IsRaster first → m.rows ≡ first.rows → m.cols ≡ first.cols → m.depth ≡ first.depth → m.laid ≡ replicate 4 false
    → m.bands ≡ replicate (length like) (zero_sums (m.rows * m.cols) m.depth) → HasRoom m
zero_room m like first bands e sound rows cols depth laid is =
    let z = zero_sums (m.rows * m.cols) m.depth in
    let size : length m.bands ≡ length like = ap length is ∙ length-replicate (length like) z in
    let at : (b : ℕ) → b < length m.bands → get_or m.bands b no_sums ≡ z = λ b less. ap (λ (xs : List Sums). get_or xs b no_sums) is ∙ get_or-replicate (length like) b z no_sums (omega (arith, less, size)) in
    let all : first.rows * first.cols * first.depth ≡ m.rows * m.cols * m.depth = ap (λ n. n * first.cols * first.depth) (sym rows) ∙ ap (λ n. m.rows * n * first.depth) (sym cols) ∙ ap (λ n. m.rows * m.cols * n) (sym depth) in
    record {
      shape = subst (λ n. IsShape n m.cols m.depth) (sym rows) (subst (λ n. IsShape first.rows n m.depth) (sym cols) (subst (λ n. IsShape first.rows first.cols n) (sym depth) sound.shape));
      some = omega (arith, size, bands.0);
      few = omega (arith, size, bands.1.few);
      size = subst (λ n. n * (m.rows * m.cols * m.depth) ≤ 16777216) (sym size) (subst (λ n. length like * n ≤ 16777216) all (first_size like first bands e));
      laid = ap length laid ∙ length-replicate 4 false;
      counts = λ b less. ap (λ (s : Sums). length s.counts) (at b less) ∙ length-replicate (m.rows * m.cols) 0;
      sums = λ b less. ap (λ (s : Sums). length s.sums) (at b less) ∙ length-replicate (m.rows * m.cols * m.depth) (pos 0);
    }

-- ---- half of a mosaic

pub half_takes : (m : Kept) (layers : List Sums) (half : List Pixels) → layers ≡ m.bands → length half ≡ length layers → EachHas m.kind m.rows m.cols m.depth layers half → IsTileOf m half
half_takes m layers half is count each = record {
  count = count ∙ ap length is;
  each = all_of (HasShape m) half (λ b r e. let s = (each b r e).shape in record { kind = sym s.kind; rows = sym s.rows; cols = sym s.cols; depth = sym s.depth });
}

pub half_stands : (m : Kept) (tiles : Tiles) (layers : List Sums) (half : List Pixels) → layers ≡ m.bands → AreSums m tiles → AreBands half → length half ≡ length layers → EachHas m.kind m.rows m.cols m.depth layers half → AreHalf tiles half
half_stands m tiles layers half is h bands count each =
    are_half m tiles half h bands (count ∙ ap length is) (λ b r e. subst (λ (xs : List Sums). HasMeans m.kind m.rows m.cols m.depth (get_or xs b no_sums) r) is (each b r e))

pub layers_have : (m : Kept) (tiles : Tiles) (layers : List Sums) (b : ℕ) → layers ≡ m.bands → HasRoom m → AreSums m tiles → b < length layers → HaveMeans m.kind (m.rows * m.cols) m.depth (get_or layers b no_sums).counts (get_or layers b no_sums).sums
layers_have m tiles layers b is room h less =
    let inside : b < length m.bands = omega (arith, less, ap length is) in
    let s = get_or m.bands b no_sums in
    let same : s ≡ get_or layers b no_sums = ap (λ (xs : List Sums). get_or xs b no_sums) (sym is) in
    subst (λ (t : Sums). HaveMeans m.kind (m.rows * m.cols) m.depth t.counts t.sums) same
    (have_means m.kind m.rows m.cols m.depth (band_of b tiles) s room.shape.rows_above room.shape.cols_above (room.counts b inside) (room.sums b inside) (are_of m tiles b h) (h.each b inside))
