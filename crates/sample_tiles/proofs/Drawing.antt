-- Pixels drawn one after the other.
use Rattle.std.proofs.Common.{◌≡◌, ℕ, ℤ, pos, ◌+◌, ◌*◌, ◌/◌, ◌%◌, ◌<◌, suc, true, List, [], ◌∷◌, length, get_or, map, replicate, Option, None, Some, refl, sym, ap, ◌∙◌, subst, arith, ⊎_elim}
use Rattle.std.specs.Prelude.{is_some, slice_set, unwrap_or, IsTrue}
use Rattle.std.specs.List.{range_with_len}
use Rattle.std.proofs.lemmas.Bool.{cases_lt}
use Rattle.std.proofs.lemmas.List.{ext_get_or, get_or-replicate, get_or-set_other, get_or-set_same, get_or_past, length-replicate, length-set, set-set}
use Rattle.std.proofs.lemmas.List.FromFn.{get_or-map-range_with_len, length-map-range_with_len}
use Rattle.raster_cells.specs.declared.kind.PixelType.TheVariants.{I16}
use Rattle.raster_values.specs.Raster.{Pixels, blank, marked, written, IsValidAt}
use Rattle.sample_tiles.specs.Drawn.{drawn, drawn_pixel, follower, sample_pixel, sample_tile}
use Rattle.sample_tiles.specs.inside.Drawing.{IsDrawn, IsOpenFrom, tile_of}

-- ---- one pixel

-- the pixel as it is once it was made valid
abbrev zeroed : List (Option (List ℤ)) → ℕ → Option (List ℤ)
zeroed pixels j = Some (unwrap_or (get_or pixels j None) (replicate 1 (pos 0)))

is_zero : (pixels : List (Option (List ℤ))) (j : ℕ) → get_or pixels j None ≡ None → zeroed pixels j ≡ Some (pos 0 ∷ [])
is_zero pixels j none = ap (λ (p : Option (List ℤ)). Some (unwrap_or p (replicate 1 (pos 0)))) none

place : (k : ℕ) → k / 64 * 64 + k % 64 ≡ k
place k = omega arith

pub valid_now : (pixels : List (Option (List ℤ))) (k : ℕ) → k < length pixels → get_or pixels k None ≡ None → IsValidAt (marked (tile_of pixels) (k / 64) (k % 64) true) (k / 64) (k % 64)
valid_now pixels k within none =
    let below : k / 64 * 64 + k % 64 < length pixels = omega (arith, within, place k) in
    let same = get_or-set_same pixels (k / 64 * 64 + k % 64) (zeroed pixels (k / 64 * 64 + k % 64)) None below in
    subst (λ (p : Option (List ℤ)). IsTrue (is_some p)) (sym same) refl

pub pixel_given : (pixels : List (Option (List ℤ))) (k : ℕ) (v : ℤ) → k < length pixels → get_or pixels k None ≡ None
    → written (marked (tile_of pixels) (k / 64) (k % 64) true) (k / 64) (k % 64) 0 v ≡ tile_of (slice_set pixels k (Some (v ∷ [])))
pixel_given pixels k v within none =
    let j = k / 64 * 64 + k % 64 in
    let below : j < length pixels = omega (arith, within, place k) in
    let invalid : get_or pixels j None ≡ None = ap (λ (n : ℕ). get_or pixels n None) (place k) ∙ none in
    let q = zeroed pixels j in
    let there : get_or (slice_set pixels j q) j None ≡ Some (pos 0 ∷ []) = get_or-set_same pixels j q None below ∙ is_zero pixels j invalid in
    ap (λ (p : Option (List ℤ)). tile_of (slice_set (slice_set pixels j q) j (Some (slice_set (unwrap_or p []) 0 v)))) there
    ∙ ap tile_of (set-set pixels j q (Some (v ∷ [])))
    ∙ ap (λ (n : ℕ). tile_of (slice_set pixels n (Some (v ∷ [])))) (place k)

pub pixel_left : (pixels : List (Option (List ℤ))) (k : ℕ) → k < length pixels → get_or pixels k None ≡ None → tile_of pixels ≡ tile_of (slice_set pixels k None)
pixel_left pixels k within none = ap tile_of (ext_get_or None pixels (slice_set pixels k None) (sym (length-set pixels k None)) (λ i below.
    ⊎_elim (λ before. sym (get_or-set_other pixels k i None None (λ e. omega (arith, e, before))))
    (λ from. ⊎_elim (λ after. sym (get_or-set_other pixels k i None None (λ e. omega (arith, e, after))))
    (λ not. let is : i ≡ k = omega (arith, from, not) in ap (λ (n : ℕ). get_or pixels n None) is ∙ none ∙ sym (ap (λ (n : ℕ). get_or (slice_set pixels k None) n None) is ∙ get_or-set_same pixels k None None within))
    (cases_lt k i)) (cases_lt i k)))

-- ---- all pixels

abbrev no_pixel : Option (List ℤ)
no_pixel = None

pub none_drawn : (tile : Pixels) → tile ≡ blank I16 64 64 1 → IsOpenFrom 0 tile
none_drawn tile is = record {
  shape = is ∙ ap tile_of (sym (ap (λ (r : Pixels). r.pixels) is));
  places = ap (λ (r : Pixels). length r.pixels) is ∙ length-replicate 4096 no_pixel;
  rest = λ i from. ap (λ (r : Pixels). get_or r.pixels i None) is ∙ ⊎_elim (λ before. get_or-replicate 4096 i None None before) (λ past. get_or_past (replicate 4096 no_pixel) i None (omega (arith, past, length-replicate 4096 no_pixel))) (cases_lt i 4096);
}

module _ (k : ℕ) (old new : Pixels) (p : Option (List ℤ)) (below : k < 4096) (was : IsOpenFrom k old) (is : new ≡ tile_of (slice_set old.pixels k p)) where
  pixels_are : new.pixels ≡ slice_set old.pixels k p
  pixels_are = ap (λ (r : Pixels). r.pixels) is

  at : (i : ℕ) → get_or new.pixels i None ≡ get_or (slice_set old.pixels k p) i None
  at i = ap (λ (ps : List (Option (List ℤ))). get_or ps i None) pixels_are

  pub one_open : IsOpenFrom (k + 1) new
  one_open = record {
    shape = is ∙ ap tile_of (sym pixels_are);
    places = ap length pixels_are ∙ length-set old.pixels k p ∙ was.places;
    rest = λ i from. at i ∙ get_or-set_other old.pixels k i p None (λ e. omega (arith, e, from)) ∙ was.rest i (omega (arith, from));
  }

  pub one_drawn : (start t : ℕ) → IsDrawn start t k old → p ≡ sample_pixel start t k → IsDrawn start t (k + 1) new
  one_drawn start t drawn one i within =
      at i ∙ ⊎_elim
      (λ before. get_or-set_other old.pixels k i p None (λ e. omega (arith, e, before)) ∙ drawn i before)
      (λ not. let same : i ≡ k = omega (arith, within, not) in
      ap (λ (n : ℕ). get_or (slice_set old.pixels k p) n None) same ∙ get_or-set_same old.pixels k p None (omega (arith, below, was.places)) ∙ one ∙ ap (sample_pixel start t) (sym same))
      (cases_lt i k)

pub all_drawn : (start t : ℕ) (tile : Pixels) → IsOpenFrom 4096 tile → IsDrawn start t 4096 tile → tile ≡ sample_tile start t
unfolding sample_tile
all_drawn start t tile o d =
    o.shape ∙ ap tile_of (ext_get_or None tile.pixels (map (sample_pixel start t) (range_with_len 0 4096))
    (o.places ∙ sym (length-map-range_with_len (sample_pixel start t) 0 4096))
    (λ i below. let few : i < 4096 = omega (arith, below, o.places) in
    d i few ∙ sym (get_or-map-range_with_len (sample_pixel start t) 0 4096 i i None few (omega arith))))

-- ---- the numbers

pub next_drawn : (start n x y : ℕ) → x ≡ drawn start n → y ≡ follower x → y ≡ drawn start (n + 1)
unfolding drawn
next_drawn start n x y is follows =
    let more : n + 1 ≡ suc n = omega arith in
    follows ∙ ap follower is ∙ sym (ap (drawn start) more)

pub number_one : (start t k x y : ℕ) → x ≡ drawn start (4096 * t + k) → y ≡ follower x → y ≡ drawn start (4096 * t + k + 1)
number_one start t k x y is follows = next_drawn start (4096 * t + k) x y is follows

-- the pixel of the next number is the tile's
pub pixel_drawn : (start t k x y : ℕ) → x ≡ drawn start (4096 * t + k) → y ≡ follower x → drawn_pixel (k / 64) (k % 64) y ≡ sample_pixel start t k
unfolding sample_pixel
pixel_drawn start t k x y is follows = ap (drawn_pixel (k / 64) (k % 64)) (number_one start t k x y is follows)
