-- The raster of the means is half of the quarters.
use Rattle.std.proofs.Common.{◌≡◌, ℕ, ℤ, ◌+◌, ◌*◌, ◌/◌, ◌%◌, ◌<◌, ◌≤◌, Bool, true, false, List, length, get_or, Option, Some, None, refl, sym, ap, ◌∙◌, subst, arith, ⊎_elim}
use Rattle.std.specs.Prelude.{◌↔◌, pos, ◌*ℤ◌, ◌≤ℤ◌, IfSome, slice_get}
use Rattle.std.proofs.lemmas.Nat.{div_below, mod_below, div-add-mod', mul-add-lt}
use Rattle.std.proofs.lemmas.Bool.{lt-ltb, ltb-true, cases_lt}
use Rattle.std.proofs.lemmas.Option.{none-some, slice_get_within}
use Rattle.std.proofs.lemmas.List.{get_or_past}
use Rattle.raster_cells.specs.declared.kind.PixelType.{PixelType}
use Rattle.raster_cells.specs.PixelType.{type_least, type_greatest}
use Rattle.raster_values.specs.Raster.{Pixels, IsRaster, InShape, valid_at}
use Rattle.raster_values.specs.Places.{SameShape}
use Rattle.raster_values.specs.Bands.{AreBands}
use Rattle.raster_values.proofs.Same.{same_raster}
use Rattle.overview_tiles.specs.Half.{Quarters, IsHalf, HalfIsOne, four_pixels, valid_four, valid_of, sum_at, mean_of}
use Rattle.overview_tiles.specs.Tiles.{Tiles, band_of, AreHalf}
use Rattle.overview_tiles.specs.Sums.{AreBandSums, AreSums, IsTileOf, Kept, Sums, no_sums}
use Rattle.overview_tiles.specs.inside.Means.{HaveMeans, HasMeans}
use Rattle.overview_tiles.proofs.Whole.{AreOf, four_in, few_valid, sum_least, sum_greatest}
use Rattle.overview_tiles.proofs.Tiled.{are_of}

-- ---- the means are there

count_is : (rows cols depth : ℕ) (quarters : Quarters) (s : Sums) (k : ℕ) → 0 < rows → 0 < cols → k < rows * cols → AreBandSums rows cols depth quarters s
    → get_or s.counts k 0 ≡ length (valid_four rows cols quarters (k / cols) (k % cols))
count_is rows cols depth quarters s k hr hc inside h =
    ap (λ j. get_or s.counts j 0) (sym (div-add-mod' k cols)) ∙ h.counts (k / cols) (k % cols) (div_below k cols rows hc inside) (mod_below k cols hc)

sum_is : (rows cols depth : ℕ) (quarters : Quarters) (s : Sums) (k d : ℕ) → 0 < rows → 0 < cols → k < rows * cols → d < depth → AreBandSums rows cols depth quarters s
    → get_or s.sums (k * depth + d) (pos 0) ≡ sum_at d (valid_four rows cols quarters (k / cols) (k % cols))
sum_is rows cols depth quarters s k d hr hc inside deep h =
    ap (λ j. get_or s.sums (j * depth + d) (pos 0)) (sym (div-add-mod' k cols)) ∙ h.sums (k / cols) (k % cols) d (div_below k cols rows hc inside) (mod_below k cols hc) deep

pub have_means : (kind : PixelType) (rows cols depth : ℕ) (quarters : Quarters) (s : Sums) → 0 < rows → 0 < cols → length s.counts ≡ rows * cols → length s.sums ≡ rows * cols * depth
    → AreOf kind rows cols depth quarters → AreBandSums rows cols depth quarters s → HaveMeans kind (rows * cols) depth s.counts s.sums
have_means kind rows cols depth quarters s hr hc counts sums of h = record {
  count_size = counts;
  sum_size = sums;
  few = λ k. ⊎_elim
      (λ (inside : k < rows * cols). (let few = few_valid (four_pixels rows cols quarters (k / cols) (k % cols)) in let is = count_is rows cols depth quarters s k hr hc inside h in (let e : get_or s.counts k 0 ≤ 4 = omega (arith, few, is) in e)))
      (λ (past : rows * cols ≤ k). (let is = get_or_past s.counts k 0 (omega (arith, past, counts)) in (let e : get_or s.counts k 0 ≤ 4 = omega (arith, is) in e)))
      (cases_lt k (rows * cols));
  least = λ k d inside deep some.
      let fours = four_pixels rows cols quarters (k / cols) (k % cols) in
      let P : ℤ → Type 0 = λ z. (pos (get_or s.counts k 0) *ℤ type_least kind) ≤ℤ z in
      let Q : ℕ → Type 0 = λ n. (pos n *ℤ type_least kind) ≤ℤ sum_at d (valid_of fours) in
      subst P (sym (sum_is rows cols depth quarters s k d hr hc inside deep h)) (subst Q (sym (count_is rows cols depth quarters s k hr hc inside h)) (sum_least kind d fours (four_in kind rows cols depth d quarters (k / cols) (k % cols) deep hr hc of)));
  greatest = λ k d inside deep some.
      let fours = four_pixels rows cols quarters (k / cols) (k % cols) in
      let P : ℤ → Type 0 = λ z. z ≤ℤ (pos (get_or s.counts k 0) *ℤ type_greatest kind) in
      let Q : ℕ → Type 0 = λ n. sum_at d (valid_of fours) ≤ℤ (pos n *ℤ type_greatest kind) in
      subst P (sym (sum_is rows cols depth quarters s k d hr hc inside deep h)) (subst Q (sym (count_is rows cols depth quarters s k hr hc inside h)) (sum_greatest kind d fours (four_in kind rows cols depth d quarters (k / cols) (k % cols) deep hr hc of)));
}

-- ---- and are half

alike_in : (quarters : Quarters) (r : Pixels) (s : Option Pixels) (n : ℕ) → AreOf r.kind r.rows r.cols r.depth quarters → quarters n ≡ s → IfSome s (λ t. IsRaster t × SameShape t r)
alike_in quarters r None n of e = tt
alike_in quarters r (Some t) n of e =
    let known = of.each n t e in
    (known.0, record { kind = known.1.0; rows = known.1.1.rows_is; cols = known.1.1.cols_is; depth = known.1.1.depth_is })

own_half : (quarters : Quarters) (s : Sums) (r : Pixels) → HasMeans r.kind r.rows r.cols r.depth s r → AreBandSums r.rows r.cols r.depth quarters s → AreOf r.kind r.rows r.cols r.depth quarters → IsHalf quarters r
own_half quarters s r means sums of = record {
  raster = means.raster;
  alike = λ n. alike_in quarters r (quarters n) n of refl;
  valid = λ row col inside.
      let k = row * r.cols + col in
      let under : k < r.rows * r.cols = (let e : k < r.cols * r.rows = mul-add-lt row r.cols col r.rows inside.0 inside.1 in omega (arith, e)) in
      let mark = means.marks k under in
      let count = sums.counts row col inside.0 inside.1 in (
        (λ on. let some : 0 < get_or s.counts k 0 = ltb-true 0 (get_or s.counts k 0) (sym mark ∙ on) in omega (arith, some, count)),
        (λ some. mark ∙ lt-ltb 0 (get_or s.counts k 0) (omega (arith, some, count))),
      );
  values = λ row col d inside on deep.
      let k = row * r.cols + col in
      let under : k < r.rows * r.cols = (let e : k < r.cols * r.rows = mul-add-lt row r.cols col r.rows inside.0 inside.1 in omega (arith, e)) in
      means.values k d under deep on
      ∙ ap (λ z. mean_of z (pos (get_or s.counts k 0))) (sums.sums row col d inside.0 inside.1 deep)
      ∙ ap (λ n. mean_of (sum_at d (valid_four r.rows r.cols quarters row col)) (pos n)) (sums.counts row col inside.0 inside.1);
}

pub is_half : (kind : PixelType) (rows cols depth : ℕ) (quarters : Quarters) (s : Sums) (r : Pixels) → HasMeans kind rows cols depth s r → AreBandSums rows cols depth quarters s → AreOf kind rows cols depth quarters → IsHalf quarters r
is_half kind rows cols depth quarters s r means sums of =
    let ek : kind ≡ r.kind = means.shape.kind in
    let er : rows ≡ r.rows = means.shape.rows in
    let ec : cols ≡ r.cols = means.shape.cols in
    let ed : depth ≡ r.depth = means.shape.depth in
    own_half quarters s r
    (subst (λ k. HasMeans k r.rows r.cols r.depth s r) ek (subst (λ n. HasMeans kind n r.cols r.depth s r) er (subst (λ n. HasMeans kind rows n r.depth s r) ec (subst (λ n. HasMeans kind rows cols n s r) ed means))))
    (subst (λ n. AreBandSums n r.cols r.depth quarters s) er (subst (λ n. AreBandSums rows n r.depth quarters s) ec (subst (λ n. AreBandSums rows cols n quarters s) ed sums)))
    (subst (λ k. AreOf k r.rows r.cols r.depth quarters) ek (subst (λ n. AreOf kind n r.cols r.depth quarters) er (subst (λ n. AreOf kind rows n r.depth quarters) ec (subst (λ n. AreOf kind rows cols n quarters) ed of))))

count_alike : (m : Kept) (half : List Pixels) (s : Option (List Pixels)) → length half ≡ length m.bands → IfSome s (λ t. AreBands t × IsTileOf m t) → IfSome s (λ t. length t ≡ length half)
count_alike m half None e h = tt
count_alike m half (Some t) e h = h.1.count ∙ sym e

pub are_half : (m : Kept) (tiles : Tiles) (half : List Pixels) → AreSums m tiles → AreBands half → length half ≡ length m.bands
    → ((b : ℕ) (r : Pixels) → slice_get half b ≡ Some r → HasMeans m.kind m.rows m.cols m.depth (get_or m.bands b no_sums) r) → AreHalf tiles half
are_half m tiles half h bands count means = record {
  bands = bands;
  alike = λ q. count_alike m half (tiles q) count (h.alike q);
  each = λ b r e. is_half m.kind m.rows m.cols m.depth (band_of b tiles) (get_or m.bands b no_sums) r (means b r e) (h.each b (let w = slice_get_within half b r e in omega (arith, w, count))) (are_of m tiles b h);
}

-- ---- one half

iff_same : (a b : Bool) (n : ℕ) → (a ≡ true) ↔ (0 < n) → (b ≡ true) ↔ (0 < n) → a ≡ b
iff_same true true n h k = refl
iff_same true false n h k = sym (k.1 (h.0 refl))
iff_same false true n h k = h.1 (k.0 refl)
iff_same false false n h k = refl

like_at : (s : Pixels) (o : Option Pixels) (r : Pixels) → o ≡ Some s → IfSome o (λ t. IsRaster t × SameShape t r) → SameShape s r
like_at s None r e h = absurd (none-some s e)
like_at s (Some t) r e h = (subst (λ (o : Option Pixels). IfSome o (λ t. IsRaster t × SameShape t r)) e h).1

pub one_half : HalfIsOne
one_half quarters q s r t there hr ht =
    let lr : SameShape s r = like_at s (quarters q) r there (hr.alike q) in
    let lt : SameShape s t = like_at s (quarters q) t there (ht.alike q) in
    let rows : t.rows ≡ r.rows = sym lt.rows ∙ lr.rows in
    let cols : t.cols ≡ r.cols = sym lt.cols ∙ lr.cols in
    let depth : t.depth ≡ r.depth = sym lt.depth ∙ lr.depth in
    let fours : (row col : ℕ) → valid_four t.rows t.cols quarters row col ≡ valid_four r.rows r.cols quarters row col = λ row col. ap (λ n. valid_four n t.cols quarters row col) rows ∙ ap (λ n. valid_four r.rows n quarters row col) cols in
    let inside : (row col : ℕ) → InShape r row col → InShape t row col = λ row col h. (omega (arith, h.0, rows), omega (arith, h.1, cols)) in
    let places : (row col : ℕ) → InShape r row col → valid_at r row col ≡ valid_at t row col = λ row col h.
    iff_same (valid_at r row col) (valid_at t row col) (length (valid_four r.rows r.cols quarters row col)) (hr.valid row col h)
    (subst (λ (vs : List (List ℤ)). (valid_at t row col ≡ true) ↔ (0 < length vs)) (fours row col) (ht.valid row col (inside row col h))) in
    same_raster r t hr.raster ht.raster (record {
      shape = record { kind = sym lr.kind ∙ lt.kind; rows = sym rows; cols = sym cols; depth = sym depth };
      places = places;
      values = λ row col d h on deep.
          hr.values row col d h on deep
          ∙ ap (λ (vs : List (List ℤ)). mean_of (sum_at d vs) (pos (length vs))) (sym (fours row col))
          ∙ sym (ht.values row col d (inside row col h) (sym (places row col h) ∙ on) (omega (arith, deep, depth)));
    })
