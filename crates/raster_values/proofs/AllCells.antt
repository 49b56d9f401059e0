-- The values of all pixels, and those put at the places of marked ones.
use Rattle.std.proofs.Common.{[], ℕ, List, replicate, Option, ◌≡◌, length, Some, None, ◌<◌, get_or, refl, suc, ◌∷◌, arith, ◌+◌, ◌*◌, ap, ◌∙◌, length-append, sym, subst, ◌-◌, zero, ◌++◌, Bool, true, false, cond, take, drop, ◌≤◌, ⊎_elim}
use Rattle.std.specs.Prelude.{ℤ, pos, unwrap_or, All, is_some}
use Rattle.std.proofs.lemmas.List.{length-replicate, get_or-replicate, get_or_append_left, get_or-append_right, length-take-le, length-drop, get_or-take, get_or-drop, take-append-drop, ext_get_or}
use Rattle.std.proofs.lemmas.List.Elements.{All-replicate, All-append, All-nil, All-take, All-drop}
use Rattle.std.specs.List.{flat_map}
use Rattle.std.proofs.lemmas.List.Concat.{flat_map-cons}
use Rattle.std.proofs.lemmas.Bool.{cases_lt, false≢true}
use Rattle.std.proofs.Math.Nat.{mul-le-mul_right}
use Rattle.std.proofs.lemmas.Nat.{mul-add-lt}
use Rattle.raster_cells.specs.declared.kind.PixelType.{PixelType}
use Rattle.raster_cells.specs.PixelType.{InRange, bytes_of, value_of}
use Rattle.raster_cells.proofs.ValueBits.{zero_in_range}
use Rattle.raster_cells.specs.Values.{values_bytes}
use Rattle.raster_cells.specs.CellList.{values_in, CellList}
use Rattle.raster_cells.proofs.CellRuns.{values_is, bytes_front, bytes_behind, length-values_in, with_run, value_there}
use Rattle.raster_cells.proofs.Spelled.{AreBytes, bytes_of_values, values_fit, value_in-at, bytes_put, put_as_run}
use Rattle.raster_cells.specs.MarkRuns.{AreRuns}
use Rattle.raster_cells.proofs.WholeRuns.{with_run_at, with_run_before, with_run_after}
use Rattle.byteorder.specs.Endian.{little_number}
use Rattle.raster_cells.specs.Shapes.{IsShape}
use Rattle.raster_values.specs.Raster.{IsPixel, Pixels, IsRaster, InShape, IsValidAt, blank, filled}
use Rattle.raster_values.specs.Flat.{all_values, AllValuesStand, PutsAll, value_in, PuttingAllIsOne, AllStand, AllPutGive}
use Rattle.raster_values.specs.View.{pixels_of, seen, IsInside}
use Rattle.raster_values.specs.declared.rasters.raster.Raster.TheInside.{Inside}
use Rattle.raster_values.specs.Ordered.{PutsMarkedBytes}
use Rattle.raster_values.proofs.Views.{KeepsValues}
use Rattle.raster_values.proofs.FlatViews.{scatters_keep, with_values, value_flat, mark_flat, same_mask, keeps_itself}
use Rattle.raster_values.proofs.Same.{same_raster}

-- ---- one list for each pixel

abbrev wide : ℕ → Option (List ℤ) → List ℤ
wide depth p = unwrap_or p (replicate depth (pos 0))

wide_long : (kind : PixelType) (depth : ℕ) (p : Option (List ℤ)) → IsPixel kind depth p → length (wide depth p) ≡ depth
wide_long kind depth None h = length-replicate depth (pos 0)
wide_long kind depth (Some vs) h = h.0

wide_fits : (kind : PixelType) (depth : ℕ) (p : Option (List ℤ)) → IsPixel kind depth p → All (InRange kind) (wide depth p)
wide_fits kind depth None h = All-replicate (InRange kind) depth (pos 0) (zero_in_range kind)
wide_fits kind depth (Some vs) h = h.1

wide_value : (depth d : ℕ) (p : Option (List ℤ)) → d < depth → get_or (wide depth p) d (pos 0) ≡ get_or (unwrap_or p []) d (pos 0)
wide_value depth d None less = get_or-replicate depth d (pos 0) (pos 0) less
wide_value depth d (Some vs) less = refl

abbrev ArePixels : PixelType → ℕ → List (Option (List ℤ)) → Type 0
ArePixels kind depth ps = (k : ℕ) → k < length ps → IsPixel kind depth (get_or ps k None)

rest_are : (kind : PixelType) (depth : ℕ) (p : Option (List ℤ)) (ps : List (Option (List ℤ))) → ArePixels kind depth (p ∷ ps) → ArePixels kind depth ps
rest_are kind depth p ps h k below = h (suc k) (omega (arith, below))

first_is : (kind : PixelType) (depth : ℕ) (p : Option (List ℤ)) (ps : List (Option (List ℤ))) → ArePixels kind depth (p ∷ ps) → IsPixel kind depth p
first_is kind depth p ps h = h 0 (omega arith)

all_long : (kind : PixelType) (depth : ℕ) (ps : List (Option (List ℤ))) → ArePixels kind depth ps → length (flat_map (wide depth) ps) ≡ length ps * depth
all_long kind depth [] h = omega arith
all_long kind depth (p ∷ ps) h =
    let rest = all_long kind depth ps (rest_are kind depth p ps h) in
    let one = wide_long kind depth p (first_is kind depth p ps h) in
    ap length (flat_map-cons (wide depth) p ps) ∙ length-append (wide depth p) (flat_map (wide depth) ps) ∙ (let e : length (wide depth p) + length (flat_map (wide depth) ps) ≡ suc (length ps) * depth = omega (arith, one, rest) in e)

all_fit : (kind : PixelType) (depth : ℕ) (ps : List (Option (List ℤ))) → ArePixels kind depth ps → All (InRange kind) (flat_map (wide depth) ps)
all_fit kind depth [] h = All-nil (InRange kind)
all_fit kind depth (p ∷ ps) h =
    subst (All (InRange kind)) (sym (flat_map-cons (wide depth) p ps))
    (All-append (InRange kind) (wide depth p) (flat_map (wide depth) ps) (wide_fits kind depth p (first_is kind depth p ps h)) (all_fit kind depth ps (rest_are kind depth p ps h)))

all_at : (kind : PixelType) (depth : ℕ) (ps : List (Option (List ℤ))) (k d : ℕ) → ArePixels kind depth ps → k < length ps → d < depth
    → get_or (flat_map (wide depth) ps) (k * depth + d) (pos 0) ≡ get_or (unwrap_or (get_or ps k None) []) d (pos 0)
all_at kind depth [] k d h below less = absurd (let no : ⊥ = omega arith in no)
all_at kind depth (p ∷ ps) zero d h below less =
    let one = wide_long kind depth p (first_is kind depth p ps h) in
    ap (λ xs. get_or xs (zero * depth + d) (pos 0)) (flat_map-cons (wide depth) p ps)
    ∙ ap (λ n. get_or (wide depth p ++ flat_map (wide depth) ps) n (pos 0)) (let e : zero * depth + d ≡ d = omega arith in e)
    ∙ get_or_append_left (wide depth p) (flat_map (wide depth) ps) (pos 0) d (omega (arith, one))
    ∙ wide_value depth d p less
all_at kind depth (p ∷ ps) (suc k) d h below less =
    let one = wide_long kind depth p (first_is kind depth p ps h) in
    ap (λ xs. get_or xs (suc k * depth + d) (pos 0)) (flat_map-cons (wide depth) p ps)
    ∙ get_or-append_right (wide depth p) (flat_map (wide depth) ps) depth (suc k * depth + d) (pos 0) one (omega arith)
    ∙ ap (λ n. get_or (flat_map (wide depth) ps) n (pos 0)) (let e : suc k * depth + d - depth ≡ k * depth + d = omega arith in e)
    ∙ all_at kind depth ps k d (rest_are kind depth p ps h) (omega arith) less

pub all_stand : AllValuesStand
unfolding all_values
all_stand r h = record {
  size = all_long r.kind r.depth r.pixels h.each ∙ ap (λ n. n * r.depth) h.places;
  each = λ k d below less. all_at r.kind r.depth r.pixels k d h.each (omega (arith, h.places)) less;
}

pub all_in_range : (r : Pixels) → IsRaster r → All (InRange r.kind) (all_values r)
unfolding all_values
all_in_range r h = all_fit r.kind r.depth r.pixels h.each

-- ---- the raster's own

pub all_of_vectors : (depth : ℕ) (marks : List Bool) (vs : List ℤ) → length vs ≡ length marks * depth
    → ((k d : ℕ) → k < length marks → d < depth → get_or marks k false ≡ false → get_or vs (k * depth + d) (pos 0) ≡ pos 0)
    → flat_map (wide depth) (pixels_of depth marks vs) ≡ vs
unfolding pixels_of
all_of_vectors depth [] [] long zeros = refl
all_of_vectors depth [] (v ∷ vs) long zeros = absurd (let no : ⊥ = omega arith in no)
all_of_vectors depth (mark ∷ marks) vs long zeros =
    let rest : flat_map (wide depth) (pixels_of depth marks (drop depth vs)) ≡ drop depth vs =
    all_of_vectors depth marks (drop depth vs) (omega (arith, length-drop depth vs)) (λ k d below less off.
    get_or-drop depth vs (k * depth + d) (pos 0) ∙ ap (λ n. get_or vs n (pos 0)) (let e : depth + (k * depth + d) ≡ suc k * depth + d = omega arith in e) ∙ zeros (suc k) d (omega arith) less off) in
    let front : length (take depth vs) ≡ depth = length-take-le depth vs (omega arith) in
    flat_map-cons (wide depth) (cond mark (Some (take depth vs)) None) (pixels_of depth marks (drop depth vs))
    ∙ ap (λ xs. wide depth (cond mark (Some (take depth vs)) None) ++ xs) rest
    ∙ ap (λ xs. xs ++ drop depth vs) ((elim mark as (λ b. (b ≡ false → (d : ℕ) → d < depth → get_or vs (0 * depth + d) (pos 0) ≡ pos 0) → wide depth (cond b (Some (take depth vs)) None) ≡ take depth vs) [
      | true ↦ λ _. refl
      | false ↦ λ z. ext_get_or (pos 0) (replicate depth (pos 0)) (take depth vs) (length-replicate depth (pos 0) ∙ sym front) (λ d below.
          let less : d < depth = omega (arith, length-replicate depth (pos 0)) in
          get_or-replicate depth d (pos 0) (pos 0) less ∙ sym (get_or-take depth vs d (pos 0) less ∙ ap (λ n. get_or vs n (pos 0)) (let e : d ≡ 0 * depth + d = omega arith in e) ∙ z refl d less))
    ]) (λ off d less. zeros 0 d (omega arith) less off))
    ∙ take-append-drop depth vs

pub all_inside : (a : Inside) → IsInside a → all_values (seen a) ≡ a.values.values
unfolding all_values
all_inside a h = all_of_vectors a.depth a.marks a.values.values (h.values ∙ ap (λ n. n * a.depth) (sym h.marks)) h.zeros

-- ---- values put at the places of marked pixels

-- the values of a piece of bytes are a piece of the values
piece_values : (kind : PixelType) (n first count : ℕ) (bytes : List ℕ) → AreBytes bytes → length bytes ≡ n * bytes_of kind → first + count ≤ n
    → values_in kind count (take (count * bytes_of kind) (drop (first * bytes_of kind) bytes)) ≡ take count (drop first (values_in kind n bytes))
piece_values kind n first count bytes are size within =
    let s = bytes_of kind in
    let all = values_in kind n bytes in
    let long : length all ≡ n = length-values_in kind n bytes in
    let run = take count (drop first all) in
    let back : length (drop first all) ≡ n - first = length-drop first all ∙ ap (λ m. m - first) long in
    let fits : All (InRange kind) all = values_fit kind n bytes are in
    let is : take (count * s) (drop (first * s) bytes) ≡ values_bytes kind run =
    ap (λ xs. take (count * s) (drop (first * s) xs)) (sym (bytes_of_values kind n bytes are size))
    ∙ ap (take (count * s)) (bytes_behind kind all first (omega (arith, long)))
    ∙ bytes_front kind (drop first all) count (omega (arith, back)) in
    values_is kind count (take (count * s) (drop (first * s) bytes)) run is (length-take-le count (drop first all) (omega (arith, back))) (All-cut kind count first all fits)
  where
    All-cut : (kind : PixelType) (count first : ℕ) (vs : List ℤ) → All (InRange kind) vs → All (InRange kind) (take count (drop first vs))
    All-cut kind count first vs fits = All-take (InRange kind) count (drop first vs) (All-drop (InRange kind) first vs fits)

pub puts_more : (kind : PixelType) (depth : ℕ) (marks : List Bool) (bytes : List ℕ) (old vs : List ℤ) (at start end count : ℕ) (piece : List ℕ) → AreBytes bytes → length vs ≡ length marks * depth
    → length bytes ≡ length vs * bytes_of kind → AreRuns marks at start end → start * depth + count ≡ end * depth
    → piece ≡ take (count * bytes_of kind) (drop (start * depth * bytes_of kind) bytes)
    → PutsMarkedBytes kind depth at marks bytes old vs → PutsMarkedBytes kind depth end marks bytes old (bytes_put kind vs (start * depth) count piece)
puts_more kind depth marks bytes old vs at start end count piece are full size runs ends cut h =
    let s = bytes_of kind in
    let n = length vs in
    let first = start * depth in
    let all = values_in kind n bytes in
    let run = values_in kind count piece in
    let long : length run ≡ count = length-values_in kind count piece in
    let up : end * depth ≤ length marks * depth = mul-le-mul_right depth runs.within in
    let within : first + length run ≤ n = omega (arith, full, long) in
    let new = with_run vs first run in
    let is : run ≡ take count (drop first all) = ap (values_in kind count) cut ∙ piece_values kind n first count bytes are size (omega (arith, long)) in
    let before : (k d : ℕ) → k < start → d < depth → get_or new (k * depth + d) (pos 0) ≡ get_or vs (k * depth + d) (pos 0) = λ k d lt less.
    (let some : suc k * depth ≤ start * depth = mul-le-mul_right depth lt in with_run_before vs run first (k * depth + d) within (omega arith)) in
    let after : (k d : ℕ) → end ≤ k → d < depth → get_or new (k * depth + d) (pos 0) ≡ get_or vs (k * depth + d) (pos 0) = λ k d ge less.
    (let some : end * depth ≤ k * depth = mul-le-mul_right depth ge in with_run_after vs run first (k * depth + d) within (omega (arith, long, ends))) in
    subst (PutsMarkedBytes kind depth end marks bytes old) (sym (put_as_run kind vs first count piece)) (record {
      each = λ k d below less on.
          ⊎_elim
          (λ (lt : k < start). before k d lt less ∙ ⊎_elim
          (λ (low : k < at). h.each k d low less on)
          (λ (ge : at ≤ k). absurd (false≢true (sym (runs.off k ge lt) ∙ on)))
          (cases_lt k at))
          (λ (ge : start ≤ k).
          let some : suc k * depth ≤ end * depth = mul-le-mul_right depth below in
          let low : start * depth ≤ k * depth = mul-le-mul_right depth ge in
          let j = k * depth + d - first in
          let place : first + j ≡ k * depth + d = omega arith in
          let less_run : j < count = omega (arith, ends) in
          ap (λ m. get_or new m (pos 0)) (sym place) ∙ with_run_at vs run first j within (omega (arith, long))
          ∙ ap (λ xs. get_or xs j (pos 0)) is ∙ get_or-take count (drop first all) j (pos 0) less_run ∙ get_or-drop first all j (pos 0)
          ∙ ap (λ m. get_or all m (pos 0)) place ∙ value_in-at kind n bytes (k * depth + d) (omega (arith, full)))
          (cases_lt k start);
      rest = λ k d less off.
          ⊎_elim
          (λ (lt : k < start). before k d lt less ∙ h.rest k d less (λ low. off (omega (arith, runs.second))))
          (λ (ge : start ≤ k). ⊎_elim
          (λ (lt : k < end). absurd (false≢true (sym (off lt) ∙ runs.on k ge lt)))
          (λ (past : end ≤ k). after k d past less ∙ h.rest k d less (λ low. absurd (let no : ⊥ = omega (arith, runs.first, runs.second) in no)))
          (cases_lt k end))
          (cases_lt k start);
    })

pub puts_keep_marks : (a : Inside) (bytes : List ℕ) (vs : List ℤ) → IsInside a → length vs ≡ length a.values.values → All (InRange a.values.kind) vs
    → PutsMarkedBytes a.values.kind a.depth (length a.marks) a.marks bytes a.values.values vs → KeepsValues a a.marks vs
puts_keep_marks a bytes vs h size fits puts =
    scatters_keep a vs h (record { size = size; in_range = λ _. fits; rest = record { rest = λ k d less off. puts.rest k d less (λ _. off) } })

pub puts_all : (a : Inside) (bytes : List ℕ) (vs : List ℤ) → IsInside a → KeepsValues a a.marks vs
    → PutsMarkedBytes a.values.kind a.depth (length a.marks) a.marks bytes a.values.values vs → PutsAll (seen a) (with_values a vs) bytes
puts_all a bytes vs h keeps puts = record {
  same = same_mask a vs;
  put = λ k d below valid less.
      let inside : k < length a.marks = omega (arith, h.marks) in
      value_flat a vs k d keeps inside less ∙ puts.each k d inside less (sym (mark_flat a k) ∙ valid);
}

-- ---- laws

pub putting_all_is_one : PuttingAllIsOne
putting_all_is_one old r s bytes hr hs pr ps =
    let inside : (i j : ℕ) → InShape r i j → InShape old i j = λ i j h. (omega (arith, h.0, pr.same.shape.rows), omega (arith, h.1, pr.same.shape.cols)) in
    same_raster r s hr hs (record {
      shape = record { kind = sym pr.same.shape.kind ∙ ps.same.shape.kind; rows = sym pr.same.shape.rows ∙ ps.same.shape.rows; cols = sym pr.same.shape.cols ∙ ps.same.shape.cols; depth = sym pr.same.shape.depth ∙ ps.same.shape.depth };
      places = λ i j h. let k = inside i j h in pr.same.places i j k ∙ sym (ps.same.places i j k);
      values = λ i j d h valid below.
          let k = inside i j h in
          let n = i * old.cols + j in
          let small : n < old.rows * old.cols = omega (arith, mul-add-lt i old.cols j old.rows k.0 k.1) in
          let on : IsValidAt old i j = sym (pr.same.places i j k) ∙ valid in
          let less : d < old.depth = omega (arith, below, pr.same.shape.depth) in
          ap (λ m. value_in r d (i * m + j)) (sym pr.same.shape.cols) ∙ pr.put n d small on less
          ∙ sym (ap (λ m. value_in s d (i * m + j)) (sym ps.same.shape.cols) ∙ ps.put n d small on less);
    })

pub all_put_give : AllPutGive
all_put_give r old new hr hn same puts =
    let vs = all_values r in
    let stand : AllStand r = all_stand r hr in
    let fits = all_in_range r hr in
    let cols : old.cols ≡ new.cols = puts.same.shape.cols in
    let inside : (i j : ℕ) → InShape new i j → InShape old i j = λ i j h. (omega (arith, h.0, puts.same.shape.rows), omega (arith, h.1, cols)) in
    let back : (i j : ℕ) → InShape old i j → InShape r i j = λ i j h. (omega (arith, h.0, same.shape.rows), omega (arith, h.1, same.shape.cols)) in
    same_raster new r hn hr (record {
      shape = record { kind = sym puts.same.shape.kind ∙ sym same.shape.kind; rows = sym puts.same.shape.rows ∙ sym same.shape.rows; cols = sym cols ∙ sym same.shape.cols; depth = sym puts.same.shape.depth ∙ sym same.shape.depth };
      places = λ i j h. let k = inside i j h in puts.same.places i j k ∙ same.places i j (back i j k);
      values = λ i j d h valid below.
          let k = inside i j h in
          let there = back i j k in
          let n = i * old.cols + j in
          let n' = i * r.cols + j in
          let at : n ≡ n' = ap (λ m. i * m + j) (sym same.shape.cols) in
          let small : n < old.rows * old.cols = omega (arith, mul-add-lt i old.cols j old.rows k.0 k.1) in
          let small' : n' < r.rows * r.cols = omega (arith, mul-add-lt i r.cols j r.rows there.0 there.1) in
          let on : IsValidAt old i j = sym (puts.same.places i j k) ∙ valid in
          let less : d < old.depth = omega (arith, below, puts.same.shape.depth) in
          let less' : d < r.depth = omega (arith, less, same.shape.depth) in
          let few : n' * r.depth + d < length vs = omega (arith, stand.size, mul-add-lt n' r.depth d (r.rows * r.cols) small' less') in
          ap (λ m. value_in new d (i * m + j)) (sym cols) ∙ puts.put n d small on less
          ∙ ap (λ (kd : PixelType). value_of kd (little_number (bytes_of kd) (drop ((n * old.depth + d) * bytes_of kd) (values_bytes r.kind vs)))) (sym same.shape.kind)
          ∙ ap (λ m. value_of r.kind (little_number (bytes_of r.kind) (drop ((m * old.depth + d) * bytes_of r.kind) (values_bytes r.kind vs)))) at
          ∙ ap (λ m. value_of r.kind (little_number (bytes_of r.kind) (drop ((n' * m + d) * bytes_of r.kind) (values_bytes r.kind vs)))) (sym same.shape.depth)
          ∙ value_there r.kind vs (n' * r.depth + d) fits few ∙ stand.each n' d small' less';
    })

-- ---- a raster made of the bytes of all values

whole_mark : (a : Inside) (n : ℕ) → a.marks ≡ replicate n true → (k : ℕ) → k < n → get_or a.marks k false ≡ true
whole_mark a n marks k below = ap (λ ms. get_or ms k false) marks ∙ get_or-replicate n k true false below

pub whole_inside : (a : Inside) (kind : PixelType) (bytes : List ℕ) → IsShape a.rows a.cols a.depth → a.marks ≡ replicate (a.rows * a.cols) true
    → a.values ≡ record { kind = kind; values = values_in kind (a.rows * a.cols * a.depth) bytes } → AreBytes bytes → IsInside a
whole_inside a kind bytes shape marks values are = record {
  shape = shape;
  marks = ap length marks ∙ length-replicate (a.rows * a.cols) true;
  values = ap (λ (l : CellList). length l.values) values ∙ length-values_in kind (a.rows * a.cols * a.depth) bytes;
  in_range = subst (λ (l : CellList). All (InRange l.kind) l.values) (sym values) (values_fit kind (a.rows * a.cols * a.depth) bytes are);
  zeros = λ k d within less off.
      absurd (false≢true (sym off ∙ whole_mark a (a.rows * a.cols) marks k (omega (arith, within, ap length marks, length-replicate (a.rows * a.cols) true))));
}

pub whole_puts : (a : Inside) (kind : PixelType) (bytes : List ℕ) → IsInside a → a.marks ≡ replicate (a.rows * a.cols) true
    → a.values ≡ record { kind = kind; values = values_in kind (a.rows * a.cols * a.depth) bytes } → PutsAll (filled (blank kind a.rows a.cols a.depth) (pos 0)) (seen a) bytes
whole_puts a kind bytes h marks values = record {
  same = record {
    shape = record { kind = sym (ap (λ (l : CellList). l.kind) values); rows = refl; cols = refl; depth = refl };
    places = λ i j within.
        let below : i * a.cols + j < a.rows * a.cols = omega (arith, mul-add-lt i a.cols j a.rows within.0 within.1) in
        mark_flat a (i * a.cols + j) ∙ whole_mark a (a.rows * a.cols) marks (i * a.cols + j) below
        ∙ sym (ap is_some (get_or-replicate (a.rows * a.cols) (i * a.cols + j) (Some (replicate a.depth (pos 0))) None below));
  };
  put = λ k d below valid less.
      let at : k * a.depth + d < a.rows * a.cols * a.depth = omega (arith, mul-add-lt k a.depth d (a.rows * a.cols) below less) in
      value_flat a a.values.values k d (keeps_itself a h) (omega (arith, below, h.marks)) less
      ∙ ap (λ (l : CellList). get_or l.values (k * a.depth + d) (pos 0)) values
      ∙ value_in-at kind (a.rows * a.cols * a.depth) bytes (k * a.depth + d) at;
}
