-- A raster laid as a quarter: counts and sums are those of one quarter more.
use Rattle.std.proofs.Common.{◌≡◌, ◌≢◌, ℕ, ℤ, ◌+◌, ◌*◌, ◌/◌, ◌%◌, ◌<◌, ◌≤◌, List, [], ◌∷◌, length, get_or, Option, Some, None, refl, sym, ap, ◌∙◌, subst, arith, ⊎_elim}
use Rattle.std.specs.Prelude.{pos, ◌+ℤ◌, ◌*ℤ◌, ◌≤ℤ◌, is_some, unwrap_or, IfSome}
use Rattle.std.proofs.lemmas.Int.{ints}
use Rattle.std.proofs.lemmas.Nat.{mul-add-lt, div_below, mod_below, div-add-mod'}
use Rattle.std.proofs.lemmas.Bool.{cases_eq}
use Rattle.std.proofs.lemmas.List.Elements.{All-get_or}
use Rattle.raster_cells.specs.declared.kind.PixelType.{PixelType}
use Rattle.raster_cells.specs.PixelType.{InRange, type_least, type_greatest}
use Rattle.raster_values.specs.Raster.{Pixels, IsRaster, IsPixel, pixel_at}
use Rattle.raster_values.specs.Flat.{value_in}
use Rattle.overview_tiles.specs.declared.layer.Frame.{Frame}
use Rattle.overview_tiles.specs.Half.{Quarters, mosaic_at, pixel_in, four_pixels, valid_of, valid_four, sum_at}
use Rattle.overview_tiles.specs.Sums.{AreBandSums, Sums}
use Rattle.overview_tiles.specs.inside.Comes.{comes, one_of, mark_in, total_at}
use Rattle.overview_tiles.specs.inside.Lays.{LaysAll}
use Rattle.overview_tiles.proofs.Comes.{comes_same}
use Rattle.overview_tiles.proofs.Fours.{four, four_sum, comes_four, spot, spot_in, spot_out, number_of}

-- ---- counts and sums of four pixels, number by number

abbrev pub total : (Option (List ℤ) → ℤ) → List (Option (List ℤ)) → ℤ
total g [] = pos 0
total g (p ∷ ps) = g p +ℤ total g ps

abbrev pub one_in : Option (List ℤ) → ℤ
one_in p = one_of (is_some p)

abbrev pub value_at_depth : ℕ → Option (List ℤ) → ℤ
value_at_depth d p = get_or (unwrap_or p []) d (pos 0)

pub count_total : (ps : List (Option (List ℤ))) → pos (length (valid_of ps)) ≡ total one_in ps
count_total [] = refl
count_total (None ∷ ps) = let rest = count_total ps in omega (arith, ints, rest)
count_total (Some v ∷ ps) = let rest = count_total ps in omega (arith, ints, rest)

pub sum_total : (d : ℕ) (ps : List (Option (List ℤ))) → sum_at d (valid_of ps) ≡ total (value_at_depth d) ps
sum_total d [] = refl
sum_total d (None ∷ ps) = let rest = sum_total d ps in omega (arith, ints, rest)
sum_total d (Some v ∷ ps) = let rest = sum_total d ps in omega (arith, ints, rest)

pub few_valid : (ps : List (Option (List ℤ))) → length (valid_of ps) ≤ length ps
few_valid [] = omega arith
few_valid (None ∷ ps) = let rest = few_valid ps in omega (arith, rest)
few_valid (Some v ∷ ps) = let rest = few_valid ps in omega (arith, rest)

-- ---- one quarter more

-- the quarters with r as the quarter q, which was missing
pub record IsWith (q : ℕ) (r : Pixels) (old new : Quarters) : Type 0 where
  pub none : old q ≡ None
  pub there : new q ≡ Some r
  pub others : (n : ℕ) → n ≢ q → new n ≡ old n

abbrev pub amount_in : (Option (List ℤ) → ℤ) → Pixels → ℕ → ℤ
amount_in g r k = g (get_or r.pixels k None)

place_more : (rows cols q : ℕ) (r : Pixels) (old new : Quarters) (g : Option (List ℤ) → ℤ) (y x : ℕ) → g None ≡ pos 0 → IsWith q r old new → r.cols ≡ cols → 0 < rows → 0 < cols
    → g (mosaic_at rows cols new y x) ≡ g (mosaic_at rows cols old y x) +ℤ spot rows cols q (amount_in g r) (rows * cols) y x
place_more rows cols q r old new g y x nothing with' ec hr hc =
    let n = 2 * (y / rows) + x / cols in
    ⊎_elim
    (λ (inside : n ≡ q).
    let less : number_of rows cols y x < rows * cols = (let e : number_of rows cols y x < cols * rows = mul-add-lt (y % rows) cols (x % cols) rows (mod_below y rows hr) (mod_below x cols hc) in omega (arith, e)) in
    let here : new n ≡ Some r = ap new inside ∙ with'.there in
    let there : old n ≡ None = ap old inside ∙ with'.none in
    let left : g (mosaic_at rows cols new y x) ≡ amount_in g r (number_of rows cols y x) =
    ap (λ (s : Option Pixels). g (pixel_in s (y % rows) (x % cols))) here ∙ ap (λ c. g (get_or r.pixels (y % rows * c + x % cols) None)) ec in
    let right : g (mosaic_at rows cols old y x) ≡ pos 0 = ap (λ (s : Option Pixels). g (pixel_in s (y % rows) (x % cols))) there ∙ nothing in
    let amount = spot_in rows cols q (amount_in g r) (rows * cols) y x inside less in
    let e : g (mosaic_at rows cols new y x) ≡ g (mosaic_at rows cols old y x) +ℤ spot rows cols q (amount_in g r) (rows * cols) y x = omega (arith, ints, left, right, amount) in e)
    (λ (out : n ≢ q).
    let same : g (mosaic_at rows cols new y x) ≡ g (mosaic_at rows cols old y x) = ap (λ (s : Option Pixels). g (pixel_in s (y % rows) (x % cols))) (with'.others n out) in
    let amount = spot_out rows cols q (amount_in g r) (rows * cols) y x out in
    let e : g (mosaic_at rows cols new y x) ≡ g (mosaic_at rows cols old y x) +ℤ spot rows cols q (amount_in g r) (rows * cols) y x = omega (arith, ints, same, amount) in e)
    (cases_eq n q)

-- a total of four pixels grows by what of the quarter comes to it
pub total_more : (rows cols q : ℕ) (r : Pixels) (old new : Quarters) (g : Option (List ℤ) → ℤ) (row col : ℕ) → g None ≡ pos 0 → IsWith q r old new → r.cols ≡ cols → 0 < rows → 0 < cols → q < 4 → row < rows → col < cols
    → total g (four_pixels rows cols new row col) ≡ total g (four_pixels rows cols old row col) +ℤ comes (total_at cols (q / 2 * rows) (q % 2 * cols)) (amount_in g r) (row * cols + col) (rows * cols)
total_more rows cols q r old new g row col nothing with' ec hr hc hq below beside =
    let f : ℕ → ℕ → ℤ = λ y x. g (mosaic_at rows cols new y x) in
    let h : ℕ → ℕ → ℤ = λ y x. g (mosaic_at rows cols old y x) in
    let s : ℕ → ℕ → ℤ = spot rows cols q (amount_in g r) (rows * cols) in
    let joined : four f row col ≡ four h row col +ℤ four s row col = four_sum f h s row col (λ i j hi hj. place_more rows cols q r old new g (2 * row + i) (2 * col + j) nothing with' ec hr hc) in
    let all : comes (total_at cols (q / 2 * rows) (q % 2 * cols)) (amount_in g r) (row * cols + col) (rows * cols) ≡ four s row col = comes_four rows cols q (amount_in g r) row col (rows * cols) hr hc hq below beside (omega arith) in
    joined ∙ ap (λ z. four h row col +ℤ z) (sym all)

-- where a frame is that of the quarter
pub record IsFrame (f : Frame) (rows cols depth q : ℕ) : Type 0 where
  pub cols_is : f.cols ≡ cols
  pub depth_is : f.depth ≡ depth
  pub top_is : f.top ≡ q / 2 * rows
  pub left_is : f.left ≡ q % 2 * cols

pub frame_total : (f : Frame) (rows cols depth q k : ℕ) → IsFrame f rows cols depth q → total_at f.cols f.top f.left (0 + k) ≡ total_at cols (q / 2 * rows) (q % 2 * cols) k
frame_total f rows cols depth q k h =
    ap (total_at f.cols f.top f.left) (let e : 0 + k ≡ k = omega arith in e)
    ∙ ap (λ c. total_at c f.top f.left k) h.cols_is ∙ ap (λ t. total_at cols t f.left k) h.top_is ∙ ap (λ t. total_at cols (q / 2 * rows) t k) h.left_is

pub frame_comes : (f : Frame) (rows cols depth q : ℕ) (a : ℕ → ℤ) (t n m : ℕ) → IsFrame f rows cols depth q → n ≡ m → comes (λ i. total_at f.cols f.top f.left (0 + i)) (λ i. a (0 + i)) t n ≡ comes (total_at cols (q / 2 * rows) (q % 2 * cols)) a t m
frame_comes f rows cols depth q a t n m h e =
    ap (comes (λ i. total_at f.cols f.top f.left (0 + i)) (λ i. a (0 + i)) t) e
    ∙ comes_same (λ i. total_at f.cols f.top f.left (0 + i)) (total_at cols (q / 2 * rows) (q % 2 * cols)) (λ i. a (0 + i)) a t m (λ i less. frame_total f rows cols depth q i h) (λ i less. ap a (omega arith))

-- the same shape
pub record IsOfShape (rows cols depth : ℕ) (r : Pixels) : Type 0 where
  pub rows_is : r.rows ≡ rows
  pub cols_is : r.cols ≡ cols
  pub depth_is : r.depth ≡ depth

many : (rows cols depth : ℕ) (r : Pixels) → IsOfShape rows cols depth r → r.rows * r.cols ≡ rows * cols
many rows cols depth r h = ap (λ n. n * r.cols) h.rows_is ∙ ap (λ n. rows * n) h.cols_is

place_below : (rows cols row col : ℕ) → row < rows → col < cols → row * cols + col < rows * cols
place_below rows cols row col below beside = let e : row * cols + col < cols * rows = mul-add-lt row cols col rows below beside in omega (arith, e)

-- the numbers of a band are those of its quarters, after a raster was laid
pub band_more : (rows cols depth q : ℕ) (f : Frame) (r : Pixels) (old new : Quarters) (s t : Sums) → IsFrame f rows cols depth q → IsOfShape rows cols depth r → IsWith q r old new → 0 < rows → 0 < cols → q < 4
    → length s.counts ≡ rows * cols → LaysAll f r s t → AreBandSums rows cols depth old s → AreBandSums rows cols depth new t
band_more rows cols depth q f r old new s t frame shape with' hr hc hq size lays before = record {
  counts = λ row col below beside.
      let k = row * cols + col in
      let inside : k < length s.counts = (let e = place_below rows cols row col below beside in omega (arith, e, size)) in
      let grown = lays.counts.each k inside in
      let come = frame_comes f rows cols depth q (mark_in r) k (r.rows * r.cols) (rows * cols) frame (many rows cols depth r shape) in
      let more = total_more rows cols q r old new one_in row col refl with' shape.cols_is hr hc hq below beside in
      let first = count_total (four_pixels rows cols old row col) in
      let last = count_total (four_pixels rows cols new row col) in
      let was : pos (get_or s.counts k 0) ≡ pos (length (valid_four rows cols old row col)) = ap pos (before.counts row col below beside) in
      let e : pos (get_or t.counts k 0) ≡ pos (length (valid_four rows cols new row col)) = grown ∙ ap (λ z. pos (get_or s.counts k 0) +ℤ z) come ∙ ap (λ z. z +ℤ comes (total_at cols (q / 2 * rows) (q % 2 * cols)) (mark_in r) k (rows * cols)) (was ∙ first) ∙ sym more ∙ sym last in
      omega (arith, ints, e);
  sums = λ row col d below beside deep.
      let k = row * cols + col in
      let inside : k < length s.counts = (let e = place_below rows cols row col below beside in omega (arith, e, size)) in
      let fd : f.depth ≡ depth = frame.depth_is in
      let P : ℕ → Type 0 = λ n. get_or t.sums (k * n + d) (pos 0) ≡ get_or s.sums (k * n + d) (pos 0) +ℤ comes (λ i. total_at f.cols f.top f.left (0 + i)) (λ i. value_in r d (0 + i)) k (r.rows * r.cols) in
      let grown : P depth = subst P fd (lays.sums k d (omega (arith, inside, size, many rows cols depth r shape)) (omega (arith, fd, deep))) in
      let come = frame_comes f rows cols depth q (value_in r d) k (r.rows * r.cols) (rows * cols) frame (many rows cols depth r shape) in
      let more = total_more rows cols q r old new (value_at_depth d) row col refl with' shape.cols_is hr hc hq below beside in
      let first = sum_total d (four_pixels rows cols old row col) in
      let last = sum_total d (four_pixels rows cols new row col) in
      let was = before.sums row col d below beside deep in
      grown ∙ ap (λ z. get_or s.sums (k * depth + d) (pos 0) +ℤ z) come ∙ ap (λ z. z +ℤ comes (total_at cols (q / 2 * rows) (q % 2 * cols)) (value_in r d) k (rows * cols)) (was ∙ first) ∙ sym more ∙ sym last;
}

-- a count that is to come is four at most
pub count_fits : (rows cols depth q : ℕ) (f : Frame) (r : Pixels) (old new : Quarters) (s : Sums) → IsFrame f rows cols depth q → IsOfShape rows cols depth r → IsWith q r old new → 0 < rows → 0 < cols → q < 4
    → AreBandSums rows cols depth old s → (t : ℕ) → t < rows * cols
    → (pos (get_or s.counts t 0) +ℤ comes (λ i. total_at f.cols f.top f.left (0 + i)) (λ i. mark_in r (0 + i)) t (r.rows * r.cols)) ≤ℤ pos 255
count_fits rows cols depth q f r old new s frame shape with' hr hc hq before t inside =
    let row = t / cols in
    let col = t % cols in
    let below : row < rows = div_below t cols rows hc inside in
    let beside : col < cols = mod_below t cols hc in
    let at : row * cols + col ≡ t = div-add-mod' t cols in
    let come = frame_comes f rows cols depth q (mark_in r) t (r.rows * r.cols) (rows * cols) frame (many rows cols depth r shape) in
    let P : ℕ → Type 0 = λ k. total one_in (four_pixels rows cols new row col) ≡ total one_in (four_pixels rows cols old row col) +ℤ comes (total_at cols (q / 2 * rows) (q % 2 * cols)) (mark_in r) k (rows * cols) in
    let more : P t = subst P at (total_more rows cols q r old new one_in row col refl with' shape.cols_is hr hc hq below beside) in
    let first = count_total (four_pixels rows cols old row col) in
    let last = count_total (four_pixels rows cols new row col) in
    let few = few_valid (four_pixels rows cols new row col) in
    let was : get_or s.counts t 0 ≡ length (valid_four rows cols old row col) = ap (λ k. get_or s.counts k 0) (sym at) ∙ before.counts row col below beside in
    omega (arith, ints, come, more, first, last, few, was)

-- ---- bounds

-- each valid pixel has a value of the type at the depth
abbrev pub EachIn : PixelType → ℕ → List (Option (List ℤ)) → Type 0
EachIn kind d [] = Unit {0}
EachIn kind d (p ∷ ps) = IfSome p (λ v. InRange kind (get_or v d (pos 0))) × EachIn kind d ps

pub sum_least : (kind : PixelType) (d : ℕ) (ps : List (Option (List ℤ))) → EachIn kind d ps → (pos (length (valid_of ps)) *ℤ type_least kind) ≤ℤ sum_at d (valid_of ps)
sum_least kind d [] h = omega (arith, ints)
sum_least kind d (None ∷ ps) h = sum_least kind d ps h.1
sum_least kind d (Some v ∷ ps) h = let rest = sum_least kind d ps h.1 in omega (arith, ints, rest, h.0.0)

pub sum_greatest : (kind : PixelType) (d : ℕ) (ps : List (Option (List ℤ))) → EachIn kind d ps → sum_at d (valid_of ps) ≤ℤ (pos (length (valid_of ps)) *ℤ type_greatest kind)
sum_greatest kind d [] h = omega (arith, ints)
sum_greatest kind d (None ∷ ps) h = sum_greatest kind d ps h.1
sum_greatest kind d (Some v ∷ ps) h = let rest = sum_greatest kind d ps h.1 in omega (arith, ints, rest, h.0.1)

-- quarters of one type and shape
pub record AreOf (kind : PixelType) (rows cols depth : ℕ) (quarters : Quarters) : Type 0 where
  pub each : (n : ℕ) (r : Pixels) → quarters n ≡ Some r → IsRaster r × ((r.kind ≡ kind) × IsOfShape rows cols depth r)

valued : (kind : PixelType) (depth d : ℕ) (p : Option (List ℤ)) → d < depth → IsPixel kind depth p → IfSome p (λ v. InRange kind (get_or v d (pos 0)))
valued kind depth d None deep h = tt
valued kind depth d (Some v) deep h = All-get_or (InRange kind) v d (pos 0) (omega (arith, h.0)) h.1

mosaic_in : (kind : PixelType) (rows cols depth d : ℕ) (quarters : Quarters) (s : Option Pixels) (n y x : ℕ) → d < depth → y < rows → x < cols → AreOf kind rows cols depth quarters → quarters n ≡ s
    → IfSome (pixel_in s y x) (λ v. InRange kind (get_or v d (pos 0)))
mosaic_in kind rows cols depth d quarters None n y x deep below beside of e = tt
mosaic_in kind rows cols depth d quarters (Some r) n y x deep below beside of e =
    let known = of.each n r e in
    let raster = known.0 in
    let shape = known.1.1 in
    let inside : y * r.cols + x < length r.pixels = (let p = place_below rows cols y x below beside in let c : y * r.cols ≡ y * cols = ap (λ m. y * m) shape.cols_is in omega (arith, p, c, raster.places, many rows cols depth r shape)) in
    let pixel : IsPixel kind r.depth (pixel_at r y x) = subst (λ k. IsPixel k r.depth (pixel_at r y x)) known.1.0 (raster.each (y * r.cols + x) inside) in
    valued kind r.depth d (pixel_at r y x) (omega (arith, deep, shape.depth_is)) pixel

pub four_in : (kind : PixelType) (rows cols depth d : ℕ) (quarters : Quarters) (row col : ℕ) → d < depth → 0 < rows → 0 < cols → AreOf kind rows cols depth quarters → EachIn kind d (four_pixels rows cols quarters row col)
four_in kind rows cols depth d quarters row col deep hr hc of =
    let at : (y x : ℕ) → IfSome (mosaic_at rows cols quarters y x) (λ v. InRange kind (get_or v d (pos 0))) = λ y x. mosaic_in kind rows cols depth d quarters (quarters (2 * (y / rows) + x / cols)) (2 * (y / rows) + x / cols) (y % rows) (x % cols) deep (mod_below y rows hr) (mod_below x cols hc) of refl in
    (at (2 * row) (2 * col), (at (2 * row) (2 * col + 1), (at (2 * row + 1) (2 * col), (at (2 * row + 1) (2 * col + 1), tt))))
