-- A tile laid as a quarter of a mosaic.
use Rattle.std.proofs.Common.{◌≡◌, ◌≢◌, ℕ, ℤ, ◌+◌, ◌*◌, ◌/◌, ◌%◌, ◌<◌, ◌≤◌, Bool, true, false, cond, List, [], length, get_or, Option, Some, None, refl, sym, ap, ◌∙◌, subst, arith, ⊎_elim}
use Rattle.std.specs.Prelude.{pos, ◌*ℤ◌, ◌≤ℤ◌, All, IfSome, is_some, nat_eq, slice_get}
use Rattle.std.proofs.Math.ListN.{set}
use Rattle.std.proofs.Math.Nat.{mul-le-mul_right}
use Rattle.std.proofs.lemmas.Int.{ints}
use Rattle.std.proofs.lemmas.Nat.{div_below, mod_below, div-add-mod'}
use Rattle.std.proofs.lemmas.Bool.{eq-eqb, ne_eqb, cases_eq, false≢true}
use Rattle.std.proofs.lemmas.Option.{none-some, get_or_from_slice_get, slice_get_within, slice_get-get_or}
use Rattle.std.proofs.lemmas.List.{get_or-set_same, get_or-set_other, length-set}
use Rattle.std.proofs.lemmas.List.Elements.{All-weaker}
use Rattle.raster_cells.specs.declared.kind.PixelType.{PixelType}
use Rattle.raster_cells.specs.declared.kind.PixelType.TheVariants.{I8, U8, I16, U16, I32, U32}
use Rattle.raster_cells.specs.PixelType.{type_least, type_greatest}
use Rattle.raster_values.specs.Raster.{Pixels, IsRaster}
use Rattle.raster_cells.specs.Shapes.{IsShape}
use Rattle.raster_values.specs.Bands.{AreBands}
use Rattle.overview_tiles.specs.declared.layer.Frame.{Frame}
use Rattle.overview_tiles.specs.Half.{Quarters, four_pixels, valid_of, sum_at}
use Rattle.overview_tiles.specs.Tiles.{Tiles, band_of, band_in, with_tile}
use Rattle.overview_tiles.specs.Sums.{AreBandSums, AreSums, HasShape, IsLikeMosaic, IsTileOf, Kept, Sums, no_sums}
use Rattle.overview_tiles.specs.inside.Comes.{IsWithin}
use Rattle.overview_tiles.specs.inside.Reach.{reach_of}
use Rattle.overview_tiles.specs.inside.Lays.{AreWithin, CanLay, LaysAll}
use Rattle.overview_tiles.specs.inside.Means.{HaveMeans}
use Rattle.overview_tiles.specs.inside.View.{HasRoom}
use Rattle.overview_tiles.proofs.Whole.{AreOf, IsFrame, IsOfShape, IsWith, band_more, count_fits, four_in, few_valid, sum_least, sum_greatest}

-- ---- lists

pub all_at : {X : Type 0} (P : X → Type 0) (xs : List X) (k : ℕ) (x : X) → All P xs → slice_get xs k ≡ Some x → P x
all_at P xs k x h e = subst P (get_or_from_slice_get xs k x x e) (h k x (slice_get_within xs k x e))

-- ---- a tile among tiles

with_there : (q : ℕ) (tile : List Pixels) (tiles : Tiles) → with_tile q tile tiles q ≡ Some tile
with_there q tile tiles = ap (λ b. cond b (Some tile) (tiles q)) (eq-eqb q q refl)

with_other : (q : ℕ) (tile : List Pixels) (tiles : Tiles) (n : ℕ) → n ≢ q → with_tile q tile tiles n ≡ tiles n
with_other q tile tiles n ne = ap (λ b. cond b (Some tile) (tiles n)) (ne_eqb n q ne)

pub tile_more : (q b : ℕ) (tile : List Pixels) (r : Pixels) (tiles : Tiles) → tiles q ≡ None → slice_get tile b ≡ Some r → IsWith q r (band_of b tiles) (band_of b (with_tile q tile tiles))
tile_more q b tile r tiles none e = record {
  none = ap (band_in b) none;
  there = ap (band_in b) (with_there q tile tiles) ∙ e;
  others = λ n ne. ap (band_in b) (with_other q tile tiles n ne);
}

band_is : (m : Kept) (b : ℕ) (r : Pixels) (s : Option (List Pixels)) → IfSome s (λ t. AreBands t × IsTileOf m t) → band_in b s ≡ Some r → IsRaster r × ((r.kind ≡ m.kind) × IsOfShape m.rows m.cols m.depth r)
band_is m b r None h e = absurd (none-some r e)
band_is m b r (Some tile) h e =
    let like = all_at (HasShape m) tile b r h.1.each e in
    (all_at IsRaster tile b r h.0.1.sound e, (like.kind, record { rows_is = like.rows; cols_is = like.cols; depth_is = like.depth }))

pub are_of : (m : Kept) (tiles : Tiles) (b : ℕ) → AreSums m tiles → AreOf m.kind m.rows m.cols m.depth (band_of b tiles)
are_of m tiles b h = record { each = λ n r e. band_is m b r (tiles n) (h.alike n) e }

none_of : (s : Option (List Pixels)) → is_some s ≡ false → s ≡ None
none_of None e = refl
none_of (Some t) e = absurd (false≢true (sym e))

pub is_free : (m : Kept) (tiles : Tiles) (q : ℕ) → q < 4 → AreSums m tiles → get_or m.laid q true ≡ false → tiles q ≡ None
is_free m tiles q few h e = none_of (tiles q) (sym (h.laid q few) ∙ e)

-- ---- before a tile is laid

sum_within : (kind : PixelType) (n : ℕ) (z : ℤ) → n ≤ 4 → (pos n *ℤ type_least kind) ≤ℤ z → z ≤ℤ (pos n *ℤ type_greatest kind) → IsWithin (4 * reach_of kind) z
sum_within I8 n z few low high = (omega (arith, ints, few, low, high), omega (arith, ints, few, low, high))
sum_within U8 n z few low high = (omega (arith, ints, few, low, high), omega (arith, ints, few, low, high))
sum_within I16 n z few low high = (omega (arith, ints, few, low, high), omega (arith, ints, few, low, high))
sum_within U16 n z few low high = (omega (arith, ints, few, low, high), omega (arith, ints, few, low, high))
sum_within I32 n z few low high = (omega (arith, ints, few, low, high), omega (arith, ints, few, low, high))
sum_within U32 n z few low high = (omega (arith, ints, few, low, high), omega (arith, ints, few, low, high))

-- and such a sum is small
pub sum_bound : (kind : PixelType) (places depth k d : ℕ) (counts : List ℕ) (sums : List ℤ) → HaveMeans kind places depth counts sums → k < places → d < depth → 0 < get_or counts k 0
    → IsWithin (4 * reach_of kind) (get_or sums (k * depth + d) (pos 0))
sum_bound kind places depth k d counts sums h inside deep some =
    sum_within kind (get_or counts k 0) (get_or sums (k * depth + d) (pos 0)) (h.few k) (h.least k d inside deep some) (h.greatest k d inside deep some)

more_within : (reach : ℕ) (z : ℤ) → IsWithin (4 * reach) z → IsWithin (256 * reach) z
more_within reach z h = (omega (arith, ints, h.0), omega (arith, ints, h.1))

pub kept_within : (kind : PixelType) (rows cols depth : ℕ) (quarters : Quarters) (s : Sums) → 0 < rows → 0 < cols → AreOf kind rows cols depth quarters → AreBandSums rows cols depth quarters s → AreWithin (256 * reach_of kind) (rows * cols) depth s.sums
kept_within kind rows cols depth quarters s hr hc of h t d inside deep =
    let row = t / cols in
    let col = t % cols in
    let below : row < rows = div_below t cols rows hc inside in
    let beside : col < cols = mod_below t cols hc in
    let at : row * cols + col ≡ t = div-add-mod' t cols in
    let fours = four_pixels rows cols quarters row col in
    let each = four_in kind rows cols depth d quarters row col deep hr hc of in
    let is : get_or s.sums (t * depth + d) (pos 0) ≡ sum_at d (valid_of fours) = ap (λ k. get_or s.sums (k * depth + d) (pos 0)) (sym at) ∙ h.sums row col d below beside deep in
    subst (IsWithin (256 * reach_of kind)) (sym is) (more_within (reach_of kind) (sum_at d (valid_of fours)) (sum_within kind (length (valid_of fours)) (sum_at d (valid_of fours)) (few_valid fours) (sum_least kind d fours each) (sum_greatest kind d fours each)))

half_le : (q n : ℕ) → q < 2 → q * n ≤ n
half_le q n h = (let a : q * n ≤ 1 * n = mul-le-mul_right n (omega arith) in omega (arith, a))

pub can_lay : (m : Kept) (tiles : Tiles) (q b : ℕ) (tile : List Pixels) (r : Pixels) (f : Frame) → q < 4 → HasRoom m → AreSums m tiles → get_or m.laid q true ≡ false → AreBands tile → IsTileOf m tile → IsFrame f m.rows m.cols m.depth q
    → slice_get tile b ≡ Some r → CanLay f r (get_or m.bands b no_sums)
can_lay m tiles q b tile r f few room h free bands of frame e =
    let s = get_or m.bands b no_sums in
    let inside : b < length m.bands = (let w = slice_get_within tile b r e in omega (arith, w, of.count)) in
    let raster = all_at IsRaster tile b r bands.1.sound e in
    let like = all_at (HasShape m) tile b r of.each e in
    let shape : IsOfShape m.rows m.cols m.depth r = record { rows_is = like.rows; cols_is = like.cols; depth_is = like.depth } in
    let hr = room.shape.rows_above in
    let hc = room.shape.cols_above in
    let with' = tile_more q b tile r tiles (is_free m tiles q few h free) e in
    let sums = h.each b inside in
    let places : r.rows * r.cols ≡ m.rows * m.cols = ap (λ n. n * r.cols) like.rows ∙ ap (λ n. m.rows * n) like.cols in
    let all : r.rows * r.cols * r.depth ≡ m.rows * m.cols * m.depth = ap (λ n. n * r.depth) places ∙ ap (λ n. m.rows * m.cols * n) like.depth in
    record {
      placed = record {
        raster = raster;
        cols = frame.cols_is ∙ sym like.cols;
        depth = frame.depth_is ∙ sym like.depth;
        top = (let a = half_le (q / 2) m.rows (omega arith) in omega (arith, a, frame.top_is, like.rows));
        left = (let a = half_le (q % 2) m.cols (omega arith) in omega (arith, a, frame.left_is, like.cols));
      };
      counts = room.counts b inside ∙ sym places;
      sums = room.sums b inside ∙ sym all;
      fits = λ t under. count_fits m.rows m.cols m.depth q f r (band_of b tiles) (band_of b (with_tile q tile tiles)) s frame shape with' hr hc few sums t (omega (arith, under, room.counts b inside));
      within = subst (λ n. AreWithin (256 * reach_of r.kind) (r.rows * r.cols) n s.sums) (sym frame.depth_is) (subst (λ n. AreWithin (256 * reach_of r.kind) n m.depth s.sums) (sym places)
          (subst (λ k. AreWithin (256 * reach_of k) (m.rows * m.cols) m.depth s.sums) (sym like.kind) (kept_within m.kind m.rows m.cols m.depth (band_of b tiles) s hr hc (are_of m tiles b h) sums)));
    }

-- ---- after it was

tile_of : (m n : Kept) (tile : List Pixels) → IsLikeMosaic m n → IsTileOf m tile → IsTileOf n tile
tile_of m n tile like h = record {
  count = h.count ∙ sym like.count;
  each = All-weaker (HasShape m) (HasShape n) (λ r s. record { kind = s.kind ∙ sym like.kind; rows = s.rows ∙ sym like.rows; cols = s.cols ∙ sym like.cols; depth = s.depth ∙ sym like.depth }) tile h.each;
}

alike_more : (m n : Kept) (s : Option (List Pixels)) → IsLikeMosaic m n → IfSome s (λ t. AreBands t × IsTileOf m t) → IfSome s (λ t. AreBands t × IsTileOf n t)
alike_more m n None like h = tt
alike_more m n (Some t) like h = (h.0, tile_of m n t like h.1)

band_sums_of : (m n : Kept) (quarters : Quarters) (s : Sums) → IsLikeMosaic m n → AreBandSums m.rows m.cols m.depth quarters s → AreBandSums n.rows n.cols n.depth quarters s
band_sums_of m n quarters s like h =
    subst (λ k. AreBandSums k n.cols n.depth quarters s) (sym like.rows) (subst (λ k. AreBandSums m.rows k n.depth quarters s) (sym like.cols) (subst (λ k. AreBandSums m.rows m.cols k quarters s) (sym like.depth) h))

abbrev no_pixels : Pixels
no_pixels = record { kind = U8; rows = 0; cols = 0; depth = 0; pixels = [] }

pub sums_more : (m n : Kept) (tiles : Tiles) (q : ℕ) (tile : List Pixels) (f : Frame) → q < 4 → HasRoom m → AreSums m tiles → get_or m.laid q true ≡ false → AreBands tile → IsTileOf m tile → IsFrame f m.rows m.cols m.depth q
    → IsLikeMosaic m n → n.laid ≡ set m.laid q true → ((b : ℕ) (r : Pixels) → slice_get tile b ≡ Some r → LaysAll f r (get_or m.bands b no_sums) (get_or n.bands b no_sums))
    → AreSums n (with_tile q tile tiles)
sums_more m n tiles q tile f few room h free bands of frame like laid lays = record {
  alike = λ k. elim (nat_eq k q) as (λ b. IfSome (cond b (Some tile) (tiles k)) (λ t. AreBands t × IsTileOf n t)) [ true ↦ (bands, tile_of m n tile like of) | false ↦ alike_more m n (tiles k) like (h.alike k) ];
  laid = λ k under.
      ⊎_elim
      (λ (same : k ≡ q).
      let here : get_or n.laid k true ≡ true = ap (λ (xs : List Bool). get_or xs k true) laid ∙ ap (λ j. get_or (set m.laid q true) j true) same ∙ get_or-set_same m.laid q true true (omega (arith, few, room.laid)) in
      here ∙ ap (λ b. is_some (cond b (Some tile) (tiles k))) (sym (eq-eqb k q same)))
      (λ (ne : k ≢ q).
      ap (λ (xs : List Bool). get_or xs k true) laid ∙ get_or-set_other m.laid q k true true ne ∙ h.laid k under ∙ ap (is_some {T = List Pixels}) (sym (with_other q tile tiles k ne)))
      (cases_eq k q);
  each = λ b under.
      let inside : b < length m.bands = omega (arith, under, like.count) in
      let r = get_or tile b no_pixels in
      let e : slice_get tile b ≡ Some r = slice_get-get_or tile b no_pixels (omega (arith, inside, of.count)) in
      let shaped = all_at (HasShape m) tile b r of.each e in
      let shape : IsOfShape m.rows m.cols m.depth r = record { rows_is = shaped.rows; cols_is = shaped.cols; depth_is = shaped.depth } in
      band_sums_of m n (band_of b (with_tile q tile tiles)) (get_or n.bands b no_sums) like
      (band_more m.rows m.cols m.depth q f r (band_of b tiles) (band_of b (with_tile q tile tiles)) (get_or m.bands b no_sums) (get_or n.bands b no_sums) frame shape
      (tile_more q b tile r tiles (is_free m tiles q few h free) e) room.shape.rows_above room.shape.cols_above few (room.counts b inside) (lays b r e) (h.each b inside));
}

-- there are as many numbers as before
pub room_more : (m n : Kept) → HasRoom m → IsLikeMosaic m n → length n.laid ≡ length m.laid
    → ((b : ℕ) → b < length m.bands → (length (get_or n.bands b no_sums).counts ≡ length (get_or m.bands b no_sums).counts) × (length (get_or n.bands b no_sums).sums ≡ length (get_or m.bands b no_sums).sums))
    → HasRoom n
room_more m n room like laid sizes =
    let places : n.rows * n.cols ≡ m.rows * m.cols = ap (λ k. k * n.cols) like.rows ∙ ap (λ k. m.rows * k) like.cols in
    let all : n.rows * n.cols * n.depth ≡ m.rows * m.cols * m.depth = ap (λ k. k * n.depth) places ∙ ap (λ k. m.rows * m.cols * k) like.depth in
    record {
      shape = subst (λ k. IsShape k n.cols n.depth) (sym like.rows) (subst (λ k. IsShape m.rows k n.depth) (sym like.cols) (subst (λ k. IsShape m.rows m.cols k) (sym like.depth) room.shape));
      some = omega (arith, room.some, like.count);
      few = omega (arith, room.few, like.count);
      size = subst (λ k. k ≤ 16777216) (sym (ap (λ k. k * (n.rows * n.cols * n.depth)) like.count ∙ ap (λ k. length m.bands * k) all)) room.size;
      laid = laid ∙ room.laid;
      counts = λ b under. (sizes b (omega (arith, under, like.count))).0 ∙ room.counts b (omega (arith, under, like.count)) ∙ sym places;
      sums = λ b under. (sizes b (omega (arith, under, like.count))).1 ∙ room.sums b (omega (arith, under, like.count)) ∙ sym all;
    }

-- ---- the whole of it

abbrev pub laid_in : Kept → ℕ → List Sums → Kept
laid_in m q bands = record m { laid = set m.laid q true; bands = bands }

pub record HasLaid (m : Kept) (tiles : Tiles) (q : ℕ) (tile : List Pixels) (bands : List Sums) : Type 0 where
  pub room : HasRoom (laid_in m q bands)
  pub sums : AreSums (laid_in m q bands) (with_tile q tile tiles)

pub lay_more : (m : Kept) (tiles : Tiles) (q : ℕ) (tile : List Pixels) (f : Frame) (before after bands : List Sums) → q < 4 → HasRoom m → AreSums m tiles → get_or m.laid q true ≡ false → AreBands tile → IsTileOf m tile → IsFrame f m.rows m.cols m.depth q
    → before ≡ m.bands → bands ≡ after → length after ≡ length before → ((b : ℕ) (r : Pixels) → slice_get tile b ≡ Some r → LaysAll f r (get_or before b no_sums) (get_or after b no_sums))
    → HasLaid m tiles q tile bands
lay_more m tiles q tile f before after bands few room h free sound of frame was is size lays =
    let n = laid_in m q bands in
    let count : length bands ≡ length m.bands = ap length is ∙ size ∙ ap length was in
    let like : IsLikeMosaic m n = record { kind = refl; rows = refl; cols = refl; depth = refl; count = count } in
    let moved : (b : ℕ) (r : Pixels) → slice_get tile b ≡ Some r → LaysAll f r (get_or m.bands b no_sums) (get_or bands b no_sums) = λ b r e.
    subst (λ (xs : List Sums). LaysAll f r (get_or xs b no_sums) (get_or bands b no_sums)) was (subst (λ (xs : List Sums). LaysAll f r (get_or before b no_sums) (get_or xs b no_sums)) (sym is) (lays b r e)) in
    record {
      room = room_more m n room like (length-set m.laid q true)
          (λ b less.
          let e = slice_get-get_or tile b no_pixels (omega (arith, less, of.count)) in
          let one = moved b (get_or tile b no_pixels) e in
          (one.count_size, one.sum_size));
      sums = sums_more m n tiles q tile f few room h free sound of frame like refl moved;
    }
