-- Steps of the loops that lay a raster.
use Rattle.std.proofs.Common.{◌≡◌, ◌≢◌, ℕ, ℤ, zero, suc, ◌∷◌, map, ◌+◌, ◌-◌, ◌*◌, ◌/◌, ◌%◌, ◌<◌, ◌≤◌, ◌⊎◌, inl, inr, Bool, true, false, cond, List, [], length, get_or, Option, Some, None, refl, sym, ap, ◌∙◌, subst, arith, ⊎_elim}
use Rattle.std.specs.Prelude.{pos, ◌+ℤ◌, ◌≤ℤ◌, is_some, unwrap_or}
use Rattle.std.proofs.lemmas.Int.{ints}
use Rattle.std.proofs.lemmas.Nat.{mul-add-lt, div-mul-add, mod-mul-add}
use Rattle.std.proofs.lemmas.Bool.{cases_eq, cases_lt}
use Rattle.std.proofs.Math.Nat.{mul-le-mul_left, mul-le-mul_right}
use Rattle.std.proofs.lemmas.List.{get_or_past}
use Rattle.std.proofs.lemmas.List.Elements.{All-get_or}
use Rattle.raster_cells.specs.declared.kind.PixelType.{PixelType}
use Rattle.raster_cells.specs.declared.kind.PixelType.TheVariants.{I8, U8, I16, U16, I32, U32}
use Rattle.raster_cells.specs.PixelType.{InRange}
use Rattle.raster_values.specs.Raster.{Pixels, IsRaster, IsPixel}
use Rattle.raster_cells.specs.Shapes.{IsShape}
use Rattle.raster_values.specs.Flat.{value_in}
use Rattle.overview_tiles.specs.declared.layer.Frame.{Frame}
use Rattle.overview_tiles.specs.inside.Comes.{GrowsCounts, GrowsSums, IsWithin, comes, in_row, mark_in, marks_amount, one_of, ones, total_at}
use Rattle.overview_tiles.specs.inside.Reach.{reach_of}
use Rattle.overview_tiles.specs.inside.Lays.{AreWithin, CountsFit, IsPlaced, LaysDepths, LaysMarks, LaysValues}
use Rattle.overview_tiles.proofs.Comes.{comes_none, comes_same, comes_join, comes_up, comes_marked, counts_start}

abbrev pub total_in : Frame → ℕ → ℕ
total_in f k = total_at f.cols f.top f.left k

pub comes_from : (f : Frame) (a : ℕ → ℤ) (t from n m : ℕ)
    → comes (λ i. total_in f (from + i)) (λ i. a (from + i)) t (n + m)
    ≡ comes (λ i. total_in f (from + i)) (λ i. a (from + i)) t n +ℤ comes (λ i. total_in f (from + n + i)) (λ i. a (from + n + i)) t m
comes_from f a t from n m =
    comes_join (λ i. total_in f (from + i)) (λ i. a (from + i)) t n m
    ∙ ap (λ z. comes (λ i. total_in f (from + i)) (λ i. a (from + i)) t n +ℤ z)
    (comes_same (λ i. total_in f (from + (n + i))) (λ i. total_in f (from + n + i)) (λ i. a (from + (n + i))) (λ i. a (from + n + i)) t m
    (λ i less. ap (total_in f) (let e : from + (n + i) ≡ from + n + i = omega arith in e))
    (λ i less. ap a (let e : from + (n + i) ≡ from + n + i = omega arith in e)))

pub values_none : (f : Frame) (r : Pixels) (from places : ℕ) (sums : List ℤ) → LaysValues f r from 0 places sums sums
values_none f r from places sums t d less deep = let none = comes_none (λ i. total_in f (from + i)) (λ i. value_in r d (from + i)) t in omega (arith, ints, none)

pub marks_none : (f : Frame) (r : Pixels) (from : ℕ) (counts : List ℕ) → LaysMarks f r from 0 counts counts
marks_none f r from counts = counts_start (λ i. total_in f (from + i)) (λ i. mark_in r (from + i)) counts

-- pixels behind those that were laid
pub marks_join : (f : Frame) (r : Pixels) (from n m : ℕ) (c0 c1 c2 : List ℕ) → length c1 ≡ length c0 → LaysMarks f r from n c0 c1 → LaysMarks f r (from + n) m c1 c2 → LaysMarks f r from (n + m) c0 c2
marks_join f r from n m c0 c1 c2 size h k = record {
  each = λ t less.
      let first = h.each t less in
      let second = k.each t (omega (arith, less, size)) in
      let all = comes_from f (mark_in r) t from n m in
      omega (arith, ints, first, second, all);
}

pub values_join : (f : Frame) (r : Pixels) (from n m places : ℕ) (s0 s1 s2 : List ℤ) → LaysValues f r from n places s0 s1 → LaysValues f r (from + n) m places s1 s2 → LaysValues f r from (n + m) places s0 s2
values_join f r from n m places s0 s1 s2 h k t d less deep =
    let first = h t d less deep in
    let second = k t d less deep in
    let all = comes_from f (value_in r d) t from n m in
    omega (arith, ints, first, second, all)

mark_up : (r : Pixels) (k : ℕ) → pos 0 ≤ℤ mark_in r k
mark_up r k = elim (is_some (get_or r.pixels k None)) as (λ b. pos 0 ≤ℤ one_of b) [ true ↦ omega (arith, ints) | false ↦ omega (arith, ints) ]

-- the pixels behind them fit, where all do
pub fits_rest : (f : Frame) (r : Pixels) (from n m : ℕ) (c0 c1 : List ℕ) → length c1 ≡ length c0 → CountsFit f r from (n + m) c0
    → GrowsCounts (λ i. total_in f (from + i)) (λ i. mark_in r (from + i)) n c0 c1 → CountsFit f r (from + n) m c1
fits_rest f r from n m c0 c1 size fit grown t less =
    let under : t < length c0 = omega (arith, less, size) in
    let first = grown.each t under in
    let all = comes_from f (mark_in r) t from n m in
    omega (arith, ints, first, all, fit t under)

pub fits_front : (f : Frame) (r : Pixels) (from n m : ℕ) (c : List ℕ) → CountsFit f r from (n + m) c → CountsFit f r from n c
fits_front f r from n m c fit t less =
    let up = comes_up (λ i. total_in f (from + i)) (λ i. mark_in r (from + i)) t n m (λ i. mark_up r (from + i)) in
    omega (arith, ints, up, fit t less)

-- ---- bounds of values

pub range_within : (kind : PixelType) (z : ℤ) → InRange kind z → IsWithin (reach_of kind) z
range_within I8 z h = (omega (arith, ints, h.0), omega (arith, ints, h.1))
range_within U8 z h = (omega (arith, ints, h.0), omega (arith, ints, h.1))
range_within I16 z h = (omega (arith, ints, h.0), omega (arith, ints, h.1))
range_within U16 z h = (omega (arith, ints, h.0), omega (arith, ints, h.1))
range_within I32 z h = (omega (arith, ints, h.0), omega (arith, ints, h.1))
range_within U32 z h = (omega (arith, ints, h.0), omega (arith, ints, h.1))

pub range_small : (kind : PixelType) (z : ℤ) → InRange kind z → IsWithin 4294967296 z
range_small I8 z h = (omega (arith, ints, h.0), omega (arith, ints, h.1))
range_small U8 z h = (omega (arith, ints, h.0), omega (arith, ints, h.1))
range_small I16 z h = (omega (arith, ints, h.0), omega (arith, ints, h.1))
range_small U16 z h = (omega (arith, ints, h.0), omega (arith, ints, h.1))
range_small I32 z h = (omega (arith, ints, h.0), omega (arith, ints, h.1))
range_small U32 z h = (omega (arith, ints, h.0), omega (arith, ints, h.1))

zero_within : (reach : ℕ) → IsWithin reach (pos 0)
zero_within reach = (omega (arith, ints), omega (arith, ints))

pixel_within : (kind : PixelType) (depth d : ℕ) (p : Option (List ℤ)) → IsPixel kind depth p → IsWithin (reach_of kind) (get_or (unwrap_or p []) d (pos 0))
pixel_within kind depth d None h = zero_within (reach_of kind)
pixel_within kind depth d (Some v) h =
    ⊎_elim
    (λ (less : d < length v). range_within kind (get_or v d (pos 0)) (All-get_or (InRange kind) v d (pos 0) less h.1))
    (λ (past : length v ≤ d). subst (IsWithin (reach_of kind)) (sym (get_or_past v d (pos 0) past)) (zero_within (reach_of kind)))
    (cases_lt d (length v))

pub value_within : (r : Pixels) (d k : ℕ) → IsRaster r → IsWithin (reach_of r.kind) (value_in r d k)
value_within r d k h =
    ⊎_elim
    (λ (less : k < length r.pixels). pixel_within r.kind r.depth d (get_or r.pixels k None) (h.each k less))
    (λ (past : length r.pixels ≤ k). subst (λ (p : Option (List ℤ)). IsWithin (reach_of r.kind) (get_or (unwrap_or p []) d (pos 0))) (sym (get_or_past r.pixels k None past)) (zero_within (reach_of r.kind)))
    (cases_lt k (length r.pixels))

-- an invalid pixel has no value
marked_or : (d : ℕ) (p : Option (List ℤ)) → ((one_of (is_some p) ≡ pos 0) × (get_or (unwrap_or p []) d (pos 0) ≡ pos 0)) ⊎ (one_of (is_some p) ≡ pos 1)
marked_or d None = inl (refl, refl)
marked_or d (Some v) = inr refl

pub within_rest : (reach : ℕ) (f : Frame) (r : Pixels) (from n bound places : ℕ) (counts : List ℕ) (s0 s1 : List ℤ) → IsRaster r → reach ≡ reach_of r.kind → places ≤ length counts → CountsFit f r from n counts
    → AreWithin bound places f.depth s0 → LaysValues f r from n places s0 s1 → AreWithin (bound + 255 * reach) places f.depth s1
within_rest reach f r from n bound places counts s0 s1 h is room fits small lays t d less deep =
    let grown = lays t d less deep in
    let before = small t d less deep in
    let fit = fits t (omega (arith, less, room)) in
    let few : comes (λ i. total_in f (from + i)) (λ i. mark_in r (from + i)) t n ≤ℤ pos 255 = omega (arith, ints, fit) in
    let come = comes_marked reach (λ i. total_in f (from + i)) (λ i. value_in r d (from + i)) (λ i. mark_in r (from + i)) t n 255 (λ i. subst (λ m. IsWithin m (value_in r d (from + i))) (sym is) (value_within r d (from + i) h))
    (λ i. marked_or d (get_or r.pixels (from + i) None)) few in
    (omega (arith, ints, grown, before.0, come.0), omega (arith, ints, grown, before.1, come.1))

pub within_more : (a b places depth : ℕ) (s : List ℤ) → a ≤ b → AreWithin a places depth s → AreWithin b places depth s
within_more a b places depth s le h t d less deep =
    let one = h t d less deep in
    (omega (arith, ints, one.0), omega (arith, ints, one.1))

-- ---- a piece of a row

pub row_total : (f : Frame) (row col i : ℕ) → col + i < f.cols → in_row ((f.top + row) / 2 * f.cols) (f.left + col) i ≡ total_in f (row * f.cols + col + i)
row_total f row col i less =
    let e : row * f.cols + col + i ≡ row * f.cols + (col + i) = omega arith in
    let a : (row * f.cols + col + i) / f.cols ≡ row = ap (λ n. n / f.cols) e ∙ div-mul-add row f.cols (col + i) less in
    let b : (row * f.cols + col + i) % f.cols ≡ col + i = ap (λ n. n % f.cols) e ∙ mod-mul-add row f.cols (col + i) less in
    ap (λ n. (f.top + row) / 2 * f.cols + n / 2) (let g : f.left + col + i ≡ f.left + (col + i) = omega arith in g)
    ∙ ap (λ n. (f.top + row) / 2 * f.cols + (f.left + n) / 2) (sym b)
    ∙ ap (λ n. (f.top + n) / 2 * f.cols + (f.left + (row * f.cols + col + i) % f.cols) / 2) (sym a)

pub total_below : (f : Frame) (r : Pixels) (row col i : ℕ) → IsPlaced f r → row < r.rows → col + i < f.cols → in_row ((f.top + row) / 2 * f.cols) (f.left + col) i < r.rows * r.cols
total_below f r row col i h below less =
    let high : (f.top + row) / 2 < r.rows = omega (arith, h.top, below) in
    let wide : (f.left + col + i) / 2 < f.cols = omega (arith, h.left, less, h.cols) in
    let e : (f.top + row) / 2 * f.cols + (f.left + col + i) / 2 < f.cols * r.rows = mul-add-lt ((f.top + row) / 2) f.cols ((f.left + col + i) / 2) r.rows high wide in
    let g : f.cols * r.rows ≡ r.cols * r.rows = ap (λ n. n * r.rows) h.cols in
    omega (arith, e, g)

pub piece_comes : (f : Frame) (r : Pixels) (row col n : ℕ) (marks : List Bool) (t : ℕ) → col + n ≤ f.cols → length marks ≡ n
    → ((i : ℕ) → i < n → get_or marks i false ≡ is_some (get_or r.pixels (row * f.cols + col + i) None))
    → comes (in_row ((f.top + row) / 2 * f.cols) (f.left + col)) (marks_amount marks) t (length marks) ≡ comes (λ i. total_in f (row * f.cols + col + i)) (λ i. mark_in r (row * f.cols + col + i)) t n
piece_comes f r row col n marks t across size are =
    ap (comes (in_row ((f.top + row) / 2 * f.cols) (f.left + col)) (marks_amount marks) t) size
    ∙ comes_same (in_row ((f.top + row) / 2 * f.cols) (f.left + col)) (λ i. total_in f (row * f.cols + col + i)) (marks_amount marks) (λ i. mark_in r (row * f.cols + col + i)) t n
    (λ i less. row_total f row col i (omega (arith, across, less)))
    (λ i less. ap one_of (are i less))

pub piece_counts : (f : Frame) (r : Pixels) (row col n : ℕ) (marks : List Bool) (old new : List ℕ) → col + n ≤ f.cols → length marks ≡ n
    → ((i : ℕ) → i < n → get_or marks i false ≡ is_some (get_or r.pixels (row * f.cols + col + i) None))
    → GrowsCounts (in_row ((f.top + row) / 2 * f.cols) (f.left + col)) (marks_amount marks) (length marks) old new
    → GrowsCounts (λ i. total_in f (row * f.cols + col + i)) (λ i. mark_in r (row * f.cols + col + i)) n old new
piece_counts f r row col n marks old new across size are h = record {
  each = λ t less.
      h.each t less ∙ ap (λ z. pos (get_or old t 0) +ℤ z) (piece_comes f r row col n marks t across size are);
}

pub piece_values : (f : Frame) (r : Pixels) (row col n d : ℕ) (amount : ℕ → ℤ) (t : ℕ) → col + n ≤ f.cols
    → ((i : ℕ) → i < n → amount i ≡ value_in r d (row * f.cols + col + i))
    → comes (in_row ((f.top + row) / 2 * f.cols) (f.left + col)) amount t n ≡ comes (λ i. total_in f (row * f.cols + col + i)) (λ i. value_in r d (row * f.cols + col + i)) t n
piece_values f r row col n d amount t across are =
    comes_same (in_row ((f.top + row) / 2 * f.cols) (f.left + col)) (λ i. total_in f (row * f.cols + col + i)) amount (λ i. value_in r d (row * f.cols + col + i)) t n
    (λ i less. row_total f row col i (omega (arith, across, less)))
    (λ i less. are i less)

-- ---- a piece of which every pixel is valid

pub marks_are : (pixels : List (Option (List ℤ))) (k : ℕ) → get_or (map is_some pixels) k false ≡ is_some (get_or pixels k None)
marks_are [] k = refl
marks_are (p ∷ ps) zero = refl
marks_are (p ∷ ps) (suc k) = marks_are ps k

pub whole_comes : (f : Frame) (r : Pixels) (row col n t : ℕ) → col + n ≤ f.cols
    → ((i : ℕ) → i < n → is_some (get_or r.pixels (row * f.cols + col + i) None) ≡ true)
    → comes (in_row ((f.top + row) / 2 * f.cols) (f.left + col)) ones t n ≡ comes (λ i. total_in f (row * f.cols + col + i)) (λ i. mark_in r (row * f.cols + col + i)) t n
whole_comes f r row col n t across all =
    comes_same (in_row ((f.top + row) / 2 * f.cols) (f.left + col)) (λ i. total_in f (row * f.cols + col + i)) ones (λ i. mark_in r (row * f.cols + col + i)) t n
    (λ i less. row_total f row col i (omega (arith, across, less)))
    (λ i less. sym (ap one_of (all i less)))

pub whole_counts : (f : Frame) (r : Pixels) (row col n : ℕ) (old new : List ℕ) → col + n ≤ f.cols
    → ((i : ℕ) → i < n → is_some (get_or r.pixels (row * f.cols + col + i) None) ≡ true)
    → GrowsCounts (in_row ((f.top + row) / 2 * f.cols) (f.left + col)) ones n old new
    → GrowsCounts (λ i. total_in f (row * f.cols + col + i)) (λ i. mark_in r (row * f.cols + col + i)) n old new
whole_counts f r row col n old new across all h = record {
  each = λ t less.
      h.each t less ∙ ap (λ z. pos (get_or old t 0) +ℤ z) (whole_comes f r row col n t across all);
}

-- ---- depth by depth

pub depths_none : (f : Frame) (r : Pixels) (from n places : ℕ) (s : List ℤ) → LaysDepths f r from n places 0 s s
depths_none f r from n places s = record {
  done = λ t e less deep. absurd (let no : ⊥ = omega (arith, deep) in no);
  rest = λ t e low deep. refl;
}

pub depths_all : (f : Frame) (r : Pixels) (from n places d : ℕ) (s0 s1 : List ℤ) → f.depth ≤ d → LaysDepths f r from n places d s0 s1 → LaysValues f r from n places s0 s1
depths_all f r from n places d s0 s1 past h t e less deep = h.done t e less (omega (arith, deep, past))

pub depths_more : (f : Frame) (r : Pixels) (row col n places d : ℕ) (amount : ℕ → ℤ) (s0 s1 s2 : List ℤ) → d < f.depth → col + n ≤ f.cols
    → ((t : ℕ) → t < places → t * f.depth + d < length s1)
    → ((i : ℕ) → i < n → amount i ≡ value_in r d (row * f.cols + col + i))
    → GrowsSums f.depth d (in_row ((f.top + row) / 2 * f.cols) (f.left + col)) amount n s1 s2
    → LaysDepths f r (row * f.cols + col) n places d s0 s1 → LaysDepths f r (row * f.cols + col) n places (d + 1) s0 s2
depths_more f r row col n places d amount s0 s1 s2 deep across room are grown h = record {
  done = λ t e less under.
      ⊎_elim
      (λ (same : e ≡ d).
      let P : ℕ → Type 0 = λ j. get_or s2 (t * f.depth + j) (pos 0) ≡ get_or s0 (t * f.depth + j) (pos 0) +ℤ comes (λ i. total_in f (row * f.cols + col + i)) (λ i. value_in r j (row * f.cols + col + i)) t n in
      let came = piece_values f r row col n d amount t across are in
      let here : P d = grown.each t (room t less) ∙ ap (λ z. get_or s1 (t * f.depth + d) (pos 0) +ℤ z) came ∙ ap (λ z. z +ℤ comes (λ i. total_in f (row * f.cols + col + i)) (λ i. value_in r d (row * f.cols + col + i)) t n) (h.rest t d (omega arith) deep) in
      subst P (sym same) here)
      (λ (ne : e ≢ d).
      grown.rest t e (omega (arith, under, deep, ne)) ne ∙ h.done t e less (omega (arith, under, ne)))
      (cases_eq e d);
  rest = λ t e low below. grown.rest t e below (λ same. omega (arith, low, same)) ∙ h.rest t e (omega (arith, low)) below;
}

-- ---- limits of a shape

pub le_times : (a b : ℕ) → 0 < b → a ≤ a * b
le_times a b h = (let e : a * 1 ≤ a * b = mul-le-mul_left a h in omega (arith, e))

pub places_few : (rows cols depth : ℕ) → IsShape rows cols depth → rows * cols ≤ 16777216
places_few rows cols depth h = (let e = le_times (rows * cols) depth h.depth_above in omega (arith, e, h.size))

pub cols_few : (rows cols depth : ℕ) → IsShape rows cols depth → cols ≤ 16777216
cols_few rows cols depth h = (let e = le_times cols rows h.rows_above in let f = places_few rows cols depth h in omega (arith, e, f))

pub place_few : (t d places depth n : ℕ) → t < places → d < depth → n ≡ places * depth → t * depth + d < n
place_few t d places depth n less deep e = (let f : t * depth + d < depth * places = mul-add-lt t depth d places less deep in omega (arith, f, e))

pub place_back : (t d places depth n : ℕ) → t * depth + d < n → n ≡ places * depth → t < places
place_back t d places depth n less e =
    ⊎_elim
    (λ (under : t < places). under)
    (λ (over : places ≤ t). absurd (let no : ⊥ = (let f : places * depth ≤ t * depth = mul-le-mul_right depth over in omega (arith, f, less, e)) in no))
    (cases_lt t places)

one_up : (b : Bool) → pos 0 ≤ℤ one_of b
one_up true = omega (arith, ints)
one_up false = omega (arith, ints)

pub mark_number : (b : Bool) → pos (cond b 1 0) ≡ one_of b
mark_number true = refl
mark_number false = refl

pub marks_up : (marks : List Bool) (i : ℕ) → pos 0 ≤ℤ marks_amount marks i
marks_up marks i = one_up (get_or marks i false)

-- the pixels of a part of what fits, fit
pub fits_part : (f : Frame) (r : Pixels) (from n m all : ℕ) (c0 c1 : List ℕ) → n + m ≤ all → length c1 ≡ length c0 → CountsFit f r from all c0 → LaysMarks f r from n c0 c1 → CountsFit f r (from + n) m c1
fits_part f r from n m all c0 c1 few size fit laid =
    let whole : all ≡ n + (m + (all - (n + m))) = omega (arith, few) in
    fits_front f r (from + n) m (all - (n + m)) c1 (fits_rest f r from n (m + (all - (n + m))) c0 c1 size (subst (λ k. CountsFit f r from k c0) whole fit) laid)
