-- How the vectors stand for the numbered pixels of a raster.
use Rattle.std.proofs.Common.{[], List, ◌≡◌, ℕ, ◌+◌, ◌*◌, ◌<◌, length, get_or, ap, ◌∙◌, true, false, sym, cond, take, drop, Some, None, refl, Bool, map, ◌++◌, arith, ◌≤◌, subst, ◌/◌, ◌∷◌}
use Rattle.std.specs.Prelude.{ℤ, pos, unwrap_or, is_some, All}
use Rattle.std.proofs.lemmas.Bool.{false≢true}
use Rattle.std.specs.List.{filter, range_with_len}
use Rattle.std.proofs.lemmas.List.{map-id, length-map, take-append-drop, get_or_past}
use Rattle.std.proofs.lemmas.Nat.{mul-add-lt}
use Rattle.raster_values.specs.inside.Runs.{Gathers, run_values}
use Rattle.raster_cells.specs.PixelType.{InRange}
use Rattle.raster_cells.specs.Values.{values_bytes, AreValues}
use Rattle.raster_cells.proofs.Spelled.{written_values}
use Rattle.raster_cells.specs.Masks.{mask_bit}
use Rattle.raster_cells.specs.CellList.{CellList}
use Rattle.raster_values.specs.declared.rasters.raster.Raster.TheInside.{Inside}
use Rattle.raster_values.specs.Raster.{Pixels, IsRaster, values_of, valid_count}
use Rattle.raster_values.specs.View.{seen, pixels_of, IsInside, AreVectors}
use Rattle.raster_values.specs.Flat.{value_in, values_among, valid_from, PutsFrom}
use Rattle.raster_values.proofs.Views.{get_or-pixels_of, value-pixel_of, KeepsValues, valid-pixels_of, sound}
use Rattle.raster_values.specs.Block.{SameMask}
use Rattle.raster_values.proofs.BlockViews.{picks_same, value_there}
use Rattle.raster_values.specs.Ordered.{PutsMarked, FillsMarked, ChangesMarked}
use Rattle.raster_values.specs.Order.{FillsValid, ScattersBytes, IsMaskOf}
use Rattle.raster_values.proofs.Deep.{values_in_range, length-values_of, raster_deep}

-- a raster with other values in its vector
abbrev pub with_values : Inside → List ℤ → Pixels
with_values a vs = record (seen a) { pixels = pixels_of a.depth a.marks vs }

pub value_flat : (a : Inside) (vs : List ℤ) (k d : ℕ) → KeepsValues a a.marks vs → k < length a.marks → d < a.depth → value_in (with_values a vs) d k ≡ get_or vs (k * a.depth + d) (pos 0)
value_flat a vs k d keeps below less =
    ap (λ p. get_or (unwrap_or p []) d (pos 0)) (get_or-pixels_of a.depth a.marks vs k) ∙ value-pixel_of a.depth a.marks vs k d less (keeps.zeros k d below less)

-- the value of a marked pixel, whatever stands at others
pub value_marked : (a : Inside) (k d : ℕ) → get_or a.marks k false ≡ true → d < a.depth → value_in (seen a) d k ≡ get_or a.values.values (k * a.depth + d) (pos 0)
value_marked a k d on less =
    ap (λ p. get_or (unwrap_or p []) d (pos 0)) (get_or-pixels_of a.depth a.marks a.values.values k) ∙ value-pixel_of a.depth a.marks a.values.values k d less (λ off. absurd (false≢true (sym off ∙ on)))

pub value_unmarked : (a : Inside) (k d : ℕ) → get_or a.marks k false ≡ false → value_in (seen a) d k ≡ pos 0
value_unmarked a k d off =
    ap (λ p. get_or (unwrap_or p []) d (pos 0)) (get_or-pixels_of a.depth a.marks a.values.values k)
    ∙ ap (λ b. get_or (unwrap_or (cond b (Some (take a.depth (drop (k * a.depth) a.values.values))) None) []) d (pos 0)) off

pub keeps_itself : (a : Inside) → IsInside a → KeepsValues a a.marks a.values.values
keeps_itself a h = record { values = h.values; in_range = h.in_range; zeros = h.zeros }

pub mark_flat : (a : Inside) (k : ℕ) → is_some (get_or (seen a).pixels k None) ≡ get_or a.marks k false
mark_flat a k = valid-pixels_of a.depth a.marks a.values.values k

pub same_mask : (a : Inside) (vs : List ℤ) → SameMask (seen a) (with_values a vs)
same_mask a vs = record {
  shape = record { kind = refl; rows = refl; cols = refl; depth = refl };
  places = λ i j within. valid-pixels_of a.depth a.marks vs (i * a.cols + j) ∙ sym (valid-pixels_of a.depth a.marks a.values.values (i * a.cols + j));
}

-- ---- runs of numbered pixels

-- the values of the valid ones are those of the marked ones
pub among_run : (a : Inside) (d place count : ℕ) → d < a.depth → values_among (seen a) d place count ≡ run_values a.depth d a.marks a.values.values place count
among_run a d place count below =
    let q : ℕ → Bool = λ i. is_some (get_or (seen a).pixels i None) in
    ap (λ ks. map (value_in (seen a) d) (filter q ks)) (sym (map-id (range_with_len place count)))
    ∙ picks_same (value_in (seen a) d) q (λ i. i) (λ k. get_or a.values.values (k * a.depth + d) (pos 0)) (λ k. get_or a.marks k false) place place count
    (λ k less. mark_flat a (place + k)) (λ k less on. value_marked a (place + k) d on below)

pub gathered_among : {X : Type 0} (g : ℤ → X) (a : Inside) (d place count n : ℕ) (old new : List X) → d < a.depth
    → Gathers (map g (run_values a.depth d a.marks a.values.values place count)) old new 0 n
    → (n ≡ length (valid_from (seen a) place count)) × (new ≡ map g (values_among (seen a) d place count) ++ drop n old)
gathered_among g a d place count n old new below gathers =
    let r = seen a in
    let run = run_values a.depth d a.marks a.values.values place count in
    let same : values_among r d place count ≡ run = among_run a d place count below in (
      omega (arith, gathers.ends, length-map run g, ap length same, length-map (valid_from r place count) (value_in r d)),
      sym (take-append-drop n new) ∙ ap (λ t. t ++ drop n new) (gathers.front ∙ ap (map g) (sym same)) ∙ ap (λ t. map g (values_among r d place count) ++ t) gathers.rest,
    )

-- ---- values that are left

pub puts_keep : (a : Inside) (d place n : ℕ) (input vs : List ℤ) → IsInside a → length vs ≡ length a.values.values → All (InRange a.values.kind) vs → PutsMarked a.depth d a.marks place n input a.values.values vs
    → KeepsValues a a.marks vs
puts_keep a d place n input vs h size fits puts = record {
  values = size ∙ h.values;
  in_range = fits;
  zeros = λ k e below less off. puts.rest k e less (λ lo hi on is. false≢true (sym off ∙ on)) ∙ h.zeros k e below less off;
}

pub puts_from : (a : Inside) (d place : ℕ) (input vs : List ℤ) → IsInside a → KeepsValues a a.marks vs → d < a.depth → place + length input ≤ length a.marks
    → PutsMarked a.depth d a.marks place (length input) input a.values.values vs → PutsFrom (seen a) (with_values a vs) place d input
puts_from a d place input vs h keeps less within puts = record {
  same = same_mask a vs;
  put = λ i below valid. value_flat a vs (place + i) d keeps (omega arith) less ∙ puts.put i below (sym (mark_flat a (place + i)) ∙ valid);
  rest = λ k e low deep out.
      let below : k < length a.marks = omega (arith, h.marks) in
      value_flat a vs k e keeps below deep ∙ puts.rest k e deep (λ lo hi on is. out lo hi is) ∙ sym (value_flat a a.values.values k e (keeps_itself a h) below deep);
}

pub fills_keep : (a : Inside) (pixel vs : List ℤ) → IsInside a → length pixel ≡ a.depth → length vs ≡ length a.values.values → All (InRange a.values.kind) vs
    → FillsMarked (length a.marks) a.marks pixel a.values.values vs → KeepsValues a a.marks vs
fills_keep a pixel vs h deep size fits fills = record {
  values = size ∙ h.values;
  in_range = fits;
  zeros = λ k e below less off.
      ap (λ n. get_or vs (k * n + e) (pos 0)) (sym deep) ∙ fills.rest k e (omega (arith, deep)) (λ _. off) ∙ ap (λ n. get_or a.values.values (k * n + e) (pos 0)) deep ∙ h.zeros k e below less off;
}

pub fills_valid : (a : Inside) (pixel vs : List ℤ) → IsInside a → length pixel ≡ a.depth → KeepsValues a a.marks vs
    → FillsMarked (length a.marks) a.marks pixel a.values.values vs → FillsValid (seen a) (with_values a vs) pixel
fills_valid a pixel vs h deep keeps fills = record {
  same = same_mask a vs;
  each = λ i j d within valid less.
      let k = i * a.cols + j in
      let below : k < length a.marks = omega (arith, mul-add-lt i a.cols j a.rows within.0 within.1, h.marks) in
      value_there a.values.kind a.rows a.cols a.depth a.marks vs i j d keeps.zeros h.marks within.0 within.1 less
      ∙ ap (λ n. get_or vs (k * n + d) (pos 0)) (sym deep)
      ∙ fills.each k d below (omega (arith, deep)) (sym (mark_flat a k) ∙ valid);
}

pub scatters_keep : (a : Inside) (vs : List ℤ) → IsInside a → ChangesMarked a.values.kind a.depth a.marks a.values.values vs → KeepsValues a a.marks vs
scatters_keep a vs h changed = record {
  values = changed.size ∙ h.values;
  in_range = changed.in_range h.in_range;
  zeros = λ k e below less off. changed.rest.rest k e less off ∙ h.zeros k e below less off;
}

pub keeps_inside : (a : Inside) (vs : List ℤ) → IsInside a → KeepsValues a a.marks vs → IsRaster (with_values a vs)
keeps_inside a vs h keeps = sound (record a { values = record a.values { values = vs } }) (record { shape = h.shape; marks = h.marks; values = keeps.values; in_range = keeps.in_range; zeros = keeps.zeros })

pub values_stand : (a : Inside) (vs : List ℤ) → IsInside a → KeepsValues a a.marks vs
    → AreValues a.values.kind (values_bytes a.values.kind (values_of (pixels_of a.depth a.marks vs))) (values_of (pixels_of a.depth a.marks vs))
values_stand a vs h keeps = written_values a.values.kind (values_of (pixels_of a.depth a.marks vs)) (values_in_range a.values.kind a.depth (pixels_of a.depth a.marks vs) (keeps_inside a vs h keeps).each)

pub scatters_bytes : (a : Inside) (bytes : List ℕ) (vs : List ℤ) → IsInside a → KeepsValues a a.marks vs → values_bytes a.values.kind (values_of (pixels_of a.depth a.marks vs)) ≡ bytes
    → ScattersBytes (seen a) (with_values a vs) bytes
scatters_bytes a bytes vs h keeps scattered = record {
  same = same_mask a vs;
  scattered = subst (λ xs. AreValues a.values.kind xs (values_of (pixels_of a.depth a.marks vs))) scattered (values_stand a vs h keeps);
}

-- ---- how many values

pub count_values : (r : Pixels) → IsRaster r → length (values_of r.pixels) ≡ valid_count r * r.depth
count_values r h = length-values_of r.depth r.pixels (raster_deep r h)

-- ---- masks

pub mask_is : (a : Inside) (mask : List ℕ) → length a.marks ≡ a.rows * a.cols → length mask ≡ (a.rows * a.cols + 7) / 8 → ((k : ℕ) → get_or mask k 0 < 256) → ((k : ℕ) → mask_bit mask k ≡ get_or a.marks k false) → IsMaskOf (seen a) mask
mask_is a mask long size are bits = record {
  size = size;
  bytes = are;
  bits = λ k below. bits k ∙ sym (mark_flat a k);
  spare = λ k past. bits k ∙ get_or_past a.marks k false (omega (arith, long));
}

-- ---- marks

pub marks_of-pixels_of : (depth : ℕ) (ms : List Bool) (vs : List ℤ) → map is_some (pixels_of depth ms vs) ≡ ms
unfolding pixels_of
marks_of-pixels_of depth [] vs = refl
marks_of-pixels_of depth (true ∷ ms) vs = ap (λ bs. true ∷ bs) (marks_of-pixels_of depth ms (drop depth vs))
marks_of-pixels_of depth (false ∷ ms) vs = ap (λ bs. false ∷ bs) (marks_of-pixels_of depth ms (drop depth vs))

-- ---- vectors by themselves

pub inside_vectors : (rows cols depth : ℕ) (ms : List Bool) (cells : CellList) → AreVectors rows cols depth ms cells → IsInside (record { rows = rows; cols = cols; depth = depth; marks = ms; values = cells })
inside_vectors rows cols depth ms cells h = record { shape = h.shape; marks = h.marks; values = h.values; in_range = h.in_range; zeros = h.zeros }

pub vectors_inside : (a : Inside) → IsInside a → AreVectors a.rows a.cols a.depth a.marks a.values
vectors_inside a h = record { shape = h.shape; marks = h.marks; values = h.values; in_range = h.in_range; zeros = h.zeros }
