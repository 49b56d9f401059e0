-- Rasters with other values at the same valid pixels, and rasters made of marks and values.
use Rattle.std.proofs.Common.{[], ◌≡◌, ℕ, ◌+◌, ◌<◌, length, get_or, ap, ◌∙◌, arith, None, List, refl, Option, Some, false, sym, true, map, subst, Bool, ◌∷◌, drop, ◌*◌, ◌++◌, take, zero, suc}
use Rattle.std.specs.Prelude.{ℤ, is_some, pos, unwrap_or, cond, All}
use Rattle.std.specs.List.{range_with_len}
use Rattle.std.proofs.lemmas.List.{get_or-map, length-map, ext_get_or, length-drop, take-append-drop, length-take-le}
use Rattle.std.proofs.lemmas.List.FromFn.{length-range_with_len, get_or-range_with_len}
use Rattle.std.proofs.lemmas.List.Sums.{sum_by-cons}
use Rattle.std.proofs.lemmas.List.Elements.{All-take, All-drop}
use Rattle.raster_cells.specs.declared.kind.PixelType.{PixelType}
use Rattle.raster_cells.specs.PixelType.{InRange}
use Rattle.raster_cells.specs.Masks.{count_of}
use Rattle.raster_values.specs.Raster.{Pixels, IsPixel, IsRaster, values_of}
use Rattle.raster_values.specs.Flat.{new_pixel, revalued, marks_of, value_in, ValuesMayChange, pixels_with, RasterInOrder, OrderDetermines}
use Rattle.raster_values.specs.Places.{SameShape}
use Rattle.raster_values.proofs.Deep.{values_next, pixels_once, raster_deep, AreDeep}

pub new_at : (r : Pixels) (g : ℕ → ℕ → ℤ → ℤ) (k : ℕ) → k < length r.pixels → get_or (revalued r g).pixels k None ≡ new_pixel r.depth (g k) (get_or r.pixels k None)
unfolding revalued
new_at r g k h =
    let long : length (range_with_len 0 (length r.pixels)) ≡ length r.pixels = length-range_with_len 0 (length r.pixels) in
    get_or-map (λ (i : ℕ). new_pixel r.depth (g i) (get_or r.pixels i None)) (range_with_len 0 (length r.pixels)) k 0 None (omega (arith, long, h))
    ∙ ap (λ i. new_pixel r.depth (g i) (get_or r.pixels i None)) (get_or-range_with_len 0 (length r.pixels) k 0 h ∙ (let e : 0 + k ≡ k = omega arith in e))

pub new_length : (r : Pixels) (g : ℕ → ℕ → ℤ → ℤ) → length (revalued r g).pixels ≡ length r.pixels
unfolding revalued
new_length r g = length-map (range_with_len 0 (length r.pixels)) (λ (i : ℕ). new_pixel r.depth (g i) (get_or r.pixels i None)) ∙ length-range_with_len 0 (length r.pixels)

new_some : (depth : ℕ) (g : ℕ → ℤ → ℤ) (p : Option (List ℤ)) → is_some (new_pixel depth g p) ≡ is_some p
new_some depth g None = refl
new_some depth g (Some values) = refl

pub new_marks : (r : Pixels) (g : ℕ → ℕ → ℤ → ℤ) → marks_of (revalued r g) ≡ marks_of r
new_marks r g =
    let long : length (marks_of (revalued r g)) ≡ length (revalued r g).pixels = length-map (revalued r g).pixels is_some in
    let long_too : length (marks_of r) ≡ length r.pixels = length-map r.pixels is_some in
    ext_get_or false (marks_of (revalued r g)) (marks_of r) (long ∙ new_length r g ∙ sym long_too)
    (λ k h. let size = new_length r g in
    let low : k < length r.pixels = omega (arith, long, size, h) in
    get_or-map is_some (revalued r g).pixels k None false (omega (arith, long, h)) ∙ ap is_some (new_at r g k low) ∙ new_some r.depth (g k) (get_or r.pixels k None) ∙ sym (get_or-map is_some r.pixels k None false low))

new_value_of : (depth d : ℕ) (g : ℕ → ℤ → ℤ) (p : Option (List ℤ)) → is_some p ≡ true → d < depth → get_or (unwrap_or (new_pixel depth g p) []) d (pos 0) ≡ g d (get_or (unwrap_or p []) d (pos 0))
new_value_of depth d g None s h = absurd (cc)
new_value_of depth d g (Some values) s h =
    let long : length (range_with_len 0 depth) ≡ depth = length-range_with_len 0 depth in
    get_or-map (λ e. g e (get_or values e (pos 0))) (range_with_len 0 depth) d 0 (pos 0) (omega (arith, long, h))
    ∙ ap (λ e. g e (get_or values e (pos 0))) (get_or-range_with_len 0 depth d 0 h ∙ (let e : 0 + d ≡ d = omega arith in e))

is_valid : (r : Pixels) (k : ℕ) → get_or (marks_of r) k false ≡ true → k < length r.pixels → is_some (get_or r.pixels k None) ≡ true
is_valid r k m h = sym (get_or-map is_some r.pixels k None false h) ∙ m

-- the value at a valid pixel
pub new_value : (r : Pixels) (g : ℕ → ℕ → ℤ → ℤ) (k d : ℕ) → k < length r.pixels → get_or (marks_of r) k false ≡ true → d < r.depth → value_in (revalued r g) d k ≡ g k d (value_in r d k)
new_value r g k d h m low = ap (λ p. get_or (unwrap_or p []) d (pos 0)) (new_at r g k h) ∙ new_value_of r.depth d (g k) (get_or r.pixels k None) (is_valid r k m h) low

new_fits : (kind : PixelType) (depth : ℕ) (g : ℕ → ℤ → ℤ) (p : Option (List ℤ)) → (is_some p ≡ true → (d : ℕ) → d < depth → InRange kind (g d (get_or (unwrap_or p []) d (pos 0)))) → IsPixel kind depth (new_pixel depth g p)
new_fits kind depth g None h = tt
new_fits kind depth g (Some values) h =
    let long : length (range_with_len 0 depth) ≡ depth = length-range_with_len 0 depth in
    let size : length (map (λ e. g e (get_or values e (pos 0))) (range_with_len 0 depth)) ≡ length (range_with_len 0 depth) = length-map (range_with_len 0 depth) (λ e. g e (get_or values e (pos 0))) in (
      size ∙ long,
      λ i d b.
          let low : i < depth = omega (arith, size, long, b) in
          subst (InRange kind) (sym (get_or-map (λ e. g e (get_or values e (pos 0))) (range_with_len 0 depth) i 0 d (omega (arith, long, low))
          ∙ ap (λ e. g e (get_or values e (pos 0))) (get_or-range_with_len 0 depth i 0 low ∙ (let e : 0 + i ≡ i = omega arith in e)))) (h refl i low),
    )

-- it is a raster where the new values are in range
pub new_raster : (r : Pixels) (g : ℕ → ℕ → ℤ → ℤ) → IsRaster r
    → ((k d : ℕ) → k < length r.pixels → get_or (marks_of r) k false ≡ true → d < r.depth → InRange r.kind (g k d (value_in r d k))) → IsRaster (revalued r g)
unfolding revalued
new_raster r g is fits =
    record {
      shape = is.shape;
      places = new_length r g ∙ is.places;
      each = λ k h.
          let size = new_length r g in
          let low : k < length r.pixels = omega (arith, size, h) in
          subst (IsPixel r.kind r.depth) (sym (new_at r g k low))
          (new_fits r.kind r.depth (g k) (get_or r.pixels k None) (λ s d b. fits k d low (get_or-map is_some r.pixels k None false low ∙ s) b));
    }

pub new_shape : (r : Pixels) (g : ℕ → ℕ → ℤ → ℤ) → SameShape r (revalued r g)
unfolding revalued
new_shape r g = record { kind = refl; rows = refl; cols = refl; depth = refl }

pub may_change : ValuesMayChange
may_change r g is fits = record { raster = new_raster r g is fits; shape = new_shape r g; marks = new_marks r g; values = λ k d h m low. new_value r g k d h m low }

-- ---- marks and values in order

pub marks_with : (depth : ℕ) (marks : List Bool) (values : List ℤ) → map is_some (pixels_with depth marks values) ≡ marks
marks_with depth [] values = refl
marks_with depth (true ∷ marks) values = ap (λ ms. true ∷ ms) (marks_with depth marks (drop depth values))
marks_with depth (false ∷ marks) values = ap (λ ms. false ∷ ms) (marks_with depth marks values)

on_count : (marks : List Bool) → count_of (true ∷ marks) ≡ 1 + count_of marks
on_count marks = sum_by-cons (λ m. cond m 1 0) true marks

off_count : (marks : List Bool) → count_of (false ∷ marks) ≡ count_of marks
off_count marks = sum_by-cons (λ m. cond m 1 0) false marks ∙ (let e : 0 + count_of marks ≡ count_of marks = omega arith in e)

room : (depth : ℕ) (marks : List Bool) (values : List ℤ) → length values ≡ count_of (true ∷ marks) * depth → length values ≡ depth + count_of marks * depth
room depth marks values e = e ∙ ap (λ n. n * depth) (on_count marks) ∙ (let s : (1 + count_of marks) * depth ≡ depth + count_of marks * depth = omega arith in s)

pub values_with : (depth : ℕ) (marks : List Bool) (values : List ℤ) → length values ≡ count_of marks * depth → values_of (pixels_with depth marks values) ≡ values
values_with depth [] [] e = refl
values_with depth [] (v ∷ values) e = absurd (let no : ⊥ = omega arith in no)
values_with depth (true ∷ marks) values e =
    let long = room depth marks values e in
    values_next (Some (take depth values)) (pixels_with depth marks (drop depth values))
    ∙ ap (λ vs. take depth values ++ vs) (values_with depth marks (drop depth values) (omega (arith, length-drop depth values, long))) ∙ take-append-drop depth values
values_with depth (false ∷ marks) values e = values_next None (pixels_with depth marks values) ∙ values_with depth marks values (e ∙ ap (λ n. n * depth) (off_count marks))

pub each_with : (kind : PixelType) (depth : ℕ) (marks : List Bool) (values : List ℤ) → All (InRange kind) values → length values ≡ count_of marks * depth
    → (k : ℕ) → k < length (pixels_with depth marks values) → IsPixel kind depth (get_or (pixels_with depth marks values) k None)
each_with kind depth [] values fits e k h = absurd (let no : ⊥ = omega arith in no)
each_with kind depth (true ∷ marks) values fits e zero h = (length-take-le depth values (let long = room depth marks values e in omega (arith, long)), All-take (InRange kind) depth values fits)
each_with kind depth (true ∷ marks) values fits e (suc k) h =
    let long = room depth marks values e in
    each_with kind depth marks (drop depth values) (All-drop (InRange kind) depth values fits) (omega (arith, length-drop depth values, long)) k (omega arith)
each_with kind depth (false ∷ marks) values fits e zero h = tt
each_with kind depth (false ∷ marks) values fits e (suc k) h = each_with kind depth marks values fits (e ∙ ap (λ n. n * depth) (off_count marks)) k (omega arith)

pub in_order_there : RasterInOrder
in_order_there kind rows cols depth marks values shape long fits count =
    let size : length (pixels_with depth marks values) ≡ rows * cols = sym (length-map (pixels_with depth marks values) is_some) ∙ ap length (marks_with depth marks values) ∙ long in
    record {
      raster = record { shape = shape; places = size; each = each_with kind depth marks values fits count };
      has_marks = marks_with depth marks values;
      has_values = values_with depth marks values count;
    }

pub order_determines : OrderDetermines
order_determines r s hr hs shape marks values =
    let deep : AreDeep r.depth s.pixels = subst (λ d. AreDeep d s.pixels) (sym shape.depth) (raster_deep s hs) in
    let pixels : r.pixels ≡ s.pixels = pixels_once r.depth r.pixels s.pixels (raster_deep r hr) deep marks values in
    λ i. record { kind = shape.kind i; rows = shape.rows i; cols = shape.cols i; depth = shape.depth i; pixels = pixels i }
