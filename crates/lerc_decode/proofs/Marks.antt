-- The marks of a raster, row by row.
use Rattle.std.proofs.Common.{◌≡◌, ℕ, ℤ, pos, ◌+◌, ◌*◌, ◌/◌, ◌%◌, ◌<◌, zero, suc, Bool, true, false, List, [], ◌∷◌, length, get_or, map, replicate, Option, Some, None, refl, sym, ap, ◌∙◌, subst, arith}
use Rattle.std.specs.Prelude.{is_some, unwrap_or, IfSome}
use Rattle.std.specs.List.{range_with_len}
use Rattle.std.proofs.lemmas.List.{ext_get_or, length-map, get_or-map}
use Rattle.std.proofs.lemmas.List.FromFn.{length-range_with_len, get_or-map-range_with_len}
use Rattle.std.proofs.lemmas.Nat.{div_below, mul-add-lt}
use Rattle.raster_values.proofs.Deep.{raster_deep}
use Rattle.raster_cells.specs.declared.kind.PixelType.{PixelType}
use Rattle.raster_values.specs.Raster.{Pixels, IsRaster, InShape, valid_at, valid_count, blank, filled}
use Rattle.raster_values.specs.Flat.{marks_of, EachValid}
use Rattle.raster_values.specs.Block.{SameMask}
use Rattle.raster_values.specs.Order.{MarksBits, FillsValid}
use Rattle.raster_cells.specs.Masks.{mask_bit, marks_in}
use Rattle.lerc_grammar.specs.Mask.{count_of}
use Rattle.lerc_grammar.proofs.Counts.{all_alike, counted}

replicate_map : {X Y : Type 0} (f : X → Y) (n : ℕ) (x : X) → map f (replicate n x) ≡ replicate n (f x)
replicate_map f zero x = refl
replicate_map f (suc n) x = ap (λ xs. f x ∷ xs) (replicate_map f n x)

pub blank_marks : (kind : PixelType) (rows cols depth : ℕ) → marks_of (blank kind rows cols depth) ≡ replicate (rows * cols) false
blank_marks kind rows cols depth = replicate_map is_some (rows * cols) None

pub filled_marks : (r : Pixels) (value : ℤ) → marks_of (filled r value) ≡ replicate (r.rows * r.cols) true
filled_marks r value = replicate_map is_some (r.rows * r.cols) (Some (replicate r.depth value))

pub blank_count : (kind : PixelType) (rows cols depth : ℕ) → valid_count (blank kind rows cols depth) ≡ 0
blank_count kind rows cols depth =
    counted (blank kind rows cols depth).pixels ∙ ap count_of (blank_marks kind rows cols depth) ∙ all_alike (rows * cols) false

-- by row and column
pub record IsPlace (r : Pixels) (k : ℕ) : Type 0 where
  pub row : ℕ
  pub col : ℕ
  pub within : InShape r row col
  pub number : row * r.cols + col ≡ k

pub place_of : (r : Pixels) → IsRaster r → (k : ℕ) → k < r.rows * r.cols → IsPlace r k
place_of r sound k below =
    let wide : 0 < r.cols = sound.shape.cols_above in
    record {
      row = k / r.cols;
      col = k % r.cols;
      within = (div_below k r.cols r.rows wide (omega (arith, below)), omega (arith, wide));
      number = omega arith;
    }

marks_at : (r : Pixels) → IsRaster r → (ms : List Bool) → length ms ≡ r.rows * r.cols → ((i j : ℕ) → InShape r i j → valid_at r i j ≡ get_or ms (i * r.cols + j) false) → marks_of r ≡ ms
marks_at r sound ms long at =
    ext_get_or false (marks_of r) ms (length-map r.pixels is_some ∙ sound.places ∙ sym long) (λ k below.
    let here : k < length r.pixels = omega (arith, below, length-map r.pixels is_some) in
    let p = place_of r sound k (omega (arith, here, sound.places)) in
    get_or-map is_some r.pixels k None false here ∙ ap (λ n. is_some (get_or r.pixels n None)) (sym p.number) ∙ at p.row p.col p.within ∙ ap (λ n. get_or ms n false) p.number)

below_all : (i j rows cols : ℕ) → i < rows → j < cols → i * cols + j < rows * cols
below_all i j rows cols in_row in_col = subst (λ n. i * cols + j < n) (let t : cols * rows ≡ rows * cols = omega arith in t) (mul-add-lt i cols j rows in_row in_col)

pub same_marks : (old new : Pixels) → IsRaster old → IsRaster new → SameMask old new → marks_of old ≡ marks_of new
same_marks old new was is s =
    let size : length (marks_of old) ≡ new.rows * new.cols = length-map old.pixels is_some ∙ was.places ∙ (λ i. s.shape.rows i * s.shape.cols i) in
    sym (marks_at new is (marks_of old) size (λ i j within.
    let inside : InShape old i j = (subst (λ n. i < n) (sym s.shape.rows) within.0, subst (λ n. j < n) (sym s.shape.cols) within.1) in
    let number : i * old.cols + j ≡ i * new.cols + j = ap (λ n. i * n + j) s.shape.cols in
    let below : i * new.cols + j < length old.pixels = subst (λ n. n < length old.pixels) number (subst (λ n. i * old.cols + j < n) (sym was.places) (below_all i j old.rows old.cols inside.0 inside.1)) in
    s.places i j inside ∙ ap (λ n. is_some (get_or old.pixels n None)) number ∙ sym (get_or-map is_some old.pixels (i * new.cols + j) None false below)))

pub bit_marks : (old new : Pixels) (mask : List ℕ) → IsRaster new → MarksBits old new mask → marks_of new ≡ marks_in (old.rows * old.cols) mask
unfolding marks_in
bit_marks old new mask is m =
    let pixels : old.rows * old.cols ≡ new.rows * new.cols = λ i. m.shape.rows i * m.shape.cols i in
    marks_at new is (marks_in (old.rows * old.cols) mask) (length-map (range_with_len 0 (old.rows * old.cols)) (mask_bit mask) ∙ length-range_with_len 0 (old.rows * old.cols) ∙ pixels) (λ i j within.
    let inside : InShape old i j = (subst (λ n. i < n) (sym m.shape.rows) within.0, subst (λ n. j < n) (sym m.shape.cols) within.1) in
    let number : i * old.cols + j ≡ i * new.cols + j = ap (λ n. i * n + j) m.shape.cols in
    let below : i * new.cols + j < old.rows * old.cols = subst (λ n. n < old.rows * old.cols) number (below_all i j old.rows old.cols inside.0 inside.1) in
    m.places i j inside ∙ ap (mask_bit mask) number ∙ sym (get_or-map-range_with_len (mask_bit mask) 0 (old.rows * old.cols) (i * new.cols + j) (i * new.cols + j) false below (omega arith)))

-- each valid pixel has this list
one_pixel : (p : Option (List ℤ)) (values : List ℤ) (depth : ℕ) → length values ≡ depth → IfSome p (λ vs. length vs ≡ depth) → (is_some p ≡ true → (d : ℕ) → d < depth → get_or (unwrap_or p []) d (pos 0) ≡ get_or values d (pos 0)) → IfSome p (λ vs. vs ≡ values)
one_pixel None values depth long deep each = tt
one_pixel (Some vs) values depth long deep each = ext_get_or (pos 0) vs values (deep ∙ sym long) (λ d below. each refl d (omega (arith, below, deep)))

pub filled_each : (old new : Pixels) (values : List ℤ) → IsRaster new → length values ≡ old.depth → FillsValid old new values → EachValid new (λ vs. vs ≡ values)
filled_each old new values is long f = λ k below.
    let p = place_of new is k (omega (arith, below, is.places)) in
    let s = f.same in
    let inside : InShape old p.row p.col = (subst (λ n. p.row < n) (sym s.shape.rows) p.within.0, subst (λ n. p.col < n) (sym s.shape.cols) p.within.1) in
    one_pixel (get_or new.pixels k None) values new.depth (long ∙ s.shape.depth) (raster_deep new is k below) (λ on d less.
    let there : valid_at new p.row p.col ≡ true = ap (λ n. is_some (get_or new.pixels n None)) p.number ∙ on in
    ap (λ n. get_or (unwrap_or (get_or new.pixels n None) []) d (pos 0)) (sym p.number)
    ∙ f.each p.row p.col d inside (sym (s.places p.row p.col inside) ∙ there) (subst (λ n. d < n) (sym s.shape.depth) less))

-- what bits leave in a raster that had no valid pixel
pub marks_found : (kind : PixelType) (rows cols depth : ℕ) (old new : Pixels) (mask : List ℕ) → old ≡ blank kind rows cols depth → IsRaster new → MarksBits old new mask → marks_of new ≡ marks_in (rows * cols) mask
marks_found kind rows cols depth old new mask e is m = bit_marks old new mask is m ∙ ap (λ (r : Pixels). marks_in (r.rows * r.cols) mask) e

pub count_found : (kind : PixelType) (rows cols depth found : ℕ) (old new : Pixels) (mask : List ℕ) → old ≡ blank kind rows cols depth → IsRaster new → MarksBits old new mask → found ≡ valid_count new → found ≡ count_of (marks_in (rows * cols) mask)
count_found kind rows cols depth found old new mask e is m v = v ∙ counted new.pixels ∙ ap count_of (marks_found kind rows cols depth old new mask e is m)
