-- Steps of the loops that mark a raster and fill it with means.
use Rattle.std.proofs.Common.{◌≡◌, ◌≢◌, ℕ, ℤ, zero, suc, ◌+◌, ◌-◌, ◌*◌, ◌/◌, ◌%◌, ◌<◌, ◌≤◌, ◌⊎◌, inl, inr, true, cond, List, length, get_or, Option, None, Some, refl, sym, ap, ◌∙◌, subst, arith, ⊎_elim}
use Rattle.std.specs.Prelude.{pos, count_by, is_some, nat_lt, replicate}
use Rattle.std.proofs.lemmas.Nat.{div_below, mod_below, div-add-mod'}
use Rattle.std.proofs.lemmas.Bool.{cases_eq, cases_lt, le-ltb, lt-ltb}
use Rattle.std.proofs.lemmas.List.{get_or-replicate}
use Rattle.std.proofs.lemmas.List.Sums.{sum_by-cons}
use Rattle.raster_cells.specs.declared.kind.PixelType.{PixelType}
use Rattle.raster_values.specs.Raster.{Pixels, IsRaster, blank, filled, valid_count}
use Rattle.raster_values.specs.Places.{SameShape}
use Rattle.raster_values.specs.Block.{SameMask}
use Rattle.raster_values.specs.Order.{MarksBits}
use Rattle.raster_cells.specs.Masks.{mask_bit}
use Rattle.raster_values.specs.Flat.{PutsFrom, value_in}
use Rattle.overview_tiles.specs.Half.{mean_of}
use Rattle.overview_tiles.specs.Sums.{Sums}
use Rattle.overview_tiles.specs.inside.Means.{Counted, Fills, FillsDepths, HasMeans, mean_at}

-- ---- shapes and masks

pub shape_trans : (r s t : Pixels) → SameShape r s → SameShape s t → SameShape r t
shape_trans r s t a b = record { kind = a.kind ∙ b.kind; rows = a.rows ∙ b.rows; cols = a.cols ∙ b.cols; depth = a.depth ∙ b.depth }

pub shape_refl : (r : Pixels) → SameShape r r
shape_refl r = record { kind = refl; rows = refl; cols = refl; depth = refl }

pub mask_refl : (r : Pixels) → SameMask r r
mask_refl r = record { shape = shape_refl r; places = λ i j h. refl }

pub mask_trans : (r s t : Pixels) → SameMask r s → SameMask s t → SameMask r t
mask_trans r s t a b = record {
  shape = shape_trans r s t a.shape b.shape;
  places = λ i j h. b.places i j (omega (arith, h.0, a.shape.rows), omega (arith, h.1, a.shape.cols)) ∙ a.places i j h;
}

pub mask_at : (r s : Pixels) (k : ℕ) → SameMask r s → 0 < r.cols → k < r.rows * r.cols → is_some (get_or s.pixels k None) ≡ is_some (get_or r.pixels k None)
mask_at r s k h hc inside =
    let row = k / r.cols in
    let col = k % r.cols in
    let at : row * r.cols + col ≡ k = div-add-mod' k r.cols in
    let same = h.places row col (div_below k r.cols r.rows hc inside, mod_below k r.cols hc) in
    let left : row * s.cols + col ≡ k = ap (λ n. row * n + col) (sym h.shape.cols) ∙ at in
    ap (λ j. is_some (get_or s.pixels j None)) (sym left) ∙ same ∙ ap (λ j. is_some (get_or r.pixels j None)) at

-- ---- marks

-- every pixel, where each has a count
pub counted_all : (counts : List ℕ) (old : Pixels) → length counts ≡ old.rows * old.cols → ((k : ℕ) → k < length counts → 0 < get_or counts k 0) → Counted counts old (filled old (pos 0))
counted_all counts old size some = record {
  shape = record { kind = refl; rows = refl; cols = refl; depth = refl };
  marks = λ k less.
      ap (is_some {T = List ℤ}) (get_or-replicate (old.rows * old.cols) k (Some (replicate old.depth (pos 0))) None (omega (arith, less, size)))
      ∙ sym (lt-ltb 0 (get_or counts k 0) (some k less));
}

-- by the bits of a mask
pub counted_bits : (counts mask : List ℕ) (old new : Pixels) → 0 < old.cols → length counts ≡ old.rows * old.cols → ((k : ℕ) → k < length counts → mask_bit mask k ≡ nat_lt 0 (get_or counts k 0))
    → MarksBits old new mask → Counted counts old new
counted_bits counts mask old new hc size bits h = record {
  shape = h.shape;
  marks = λ k less.
      let row = k / old.cols in
      let col = k % old.cols in
      let at : row * old.cols + col ≡ k = div-add-mod' k old.cols in
      let left : row * new.cols + col ≡ k = ap (λ n. row * n + col) (sym h.shape.cols) ∙ at in
      ap (λ j. is_some (get_or new.pixels j None)) (sym left)
      ∙ h.places row col (div_below k old.cols old.rows hc (omega (arith, less, size)), mod_below k old.cols hc)
      ∙ ap (mask_bit mask) at ∙ bits k less;
}

-- ---- means

pub fills_start : (counts : List ℕ) (sums : List ℤ) (from : ℕ) (r : Pixels) → Fills counts sums from 0 r r
fills_start counts sums from r = record {
  same = mask_refl r;
  put = λ k d low high deep on. absurd (let no : ⊥ = omega (arith, low, high) in no);
  rest = λ k d inside deep out. refl;
}

past : (n m j : ℕ) → (j < 0) ⊎ (0 + (n + m) ≤ j) → n + m ≤ j
past n m j (inl h) = absurd (let no : ⊥ = omega (arith, h) in no)
past n m j (inr h) = omega (arith, h)

past_first : (n m j : ℕ) → (j < 0) ⊎ (0 + (n + m) ≤ j) → 0 + n ≤ j
past_first n m j (inl h) = absurd (let no : ⊥ = omega (arith, h) in no)
past_first n m j (inr h) = omega (arith, h)

-- one piece more
pub fills_join : (counts : List ℕ) (sums : List ℤ) (n m : ℕ) (r0 r1 r2 : Pixels) → 0 < r0.cols → n + m ≤ r0.rows * r0.cols → Fills counts sums 0 n r0 r1 → Fills counts sums n m r1 r2 → Fills counts sums 0 (n + m) r0 r2
fills_join counts sums n m r0 r1 r2 hc few h k =
    let rows : r0.rows ≡ r1.rows = h.same.shape.rows in
    let cols : r0.cols ≡ r1.cols = h.same.shape.cols in
    let depth : r0.depth ≡ r1.depth = h.same.shape.depth in
    let places : r0.rows * r0.cols ≡ r1.rows * r1.cols = ap (λ j. j * r0.cols) rows ∙ ap (λ j. r1.rows * j) cols in
    record {
      same = mask_trans r0 r1 r2 h.same k.same;
      put = λ j d low high deep on. ⊎_elim
          (λ (before : j < n). k.rest j d (omega (arith, high, few, places)) (omega (arith, deep, depth)) (inl before) ∙ h.put j d low (omega (arith, before)) deep on)
          (λ (behind : n ≤ j).
          let mark : is_some (get_or r1.pixels j None) ≡ true = mask_at r0 r1 j h.same hc (omega (arith, high, few)) ∙ on in
          k.put j d behind (omega (arith, high)) (omega (arith, deep, depth)) mark ∙ ap (λ e. mean_at e counts sums d j) (sym depth))
          (cases_lt j n);
      rest = λ j d inside deep out.
          k.rest j d (omega (arith, inside, places)) (omega (arith, deep, depth)) (inr (past n m j out)) ∙ h.rest j d inside deep (inr (past_first n m j out));
    }

-- the mean of a sum that is read as another, which matters only where there are values
pub mean_round : (n : ℕ) (y x : ℤ) → (0 < n → y ≡ x) → cond (nat_lt 0 n) (mean_of y (pos n)) (pos 0) ≡ cond (nat_lt 0 n) (mean_of x (pos n)) (pos 0)
mean_round n y x h =
    ⊎_elim
    (λ (some : 0 < n). ap (λ z. cond (nat_lt 0 n) (mean_of z (pos n)) (pos 0)) (h some))
    (λ (none : n ≤ 0). ap (λ b. cond b (mean_of y (pos n)) (pos 0)) (le-ltb 0 n none) ∙ sym (ap (λ b. cond b (mean_of x (pos n)) (pos 0)) (le-ltb 0 n none)))
    (cases_lt 0 n)

-- ---- the raster of a blank one

none_counted : (n : ℕ) → count_by (is_some {T = List ℤ}) (replicate n None) ≡ 0
none_counted zero = refl
none_counted (suc n) = let first = sum_by-cons (λ (p : Option (List ℤ)). cond (is_some p) 1 0) None (replicate n None) in omega (arith, first, none_counted n)

pub blank_count : (kind : PixelType) (rows cols depth : ℕ) → valid_count (blank kind rows cols depth) ≡ 0
blank_count kind rows cols depth = none_counted (rows * cols)

pub has_means : (kind : PixelType) (rows cols depth : ℕ) (s : Sums) (r1 r2 : Pixels) → 0 < cols → IsRaster r2 → length s.counts ≡ rows * cols → Counted s.counts (blank kind rows cols depth) r1
    → Fills s.counts s.sums 0 (r1.rows * r1.cols) r1 r2 → HasMeans kind rows cols depth s r2
has_means kind rows cols depth s r1 r2 hc sound size counted filled =
    let b = blank kind rows cols depth in
    let ec : cols ≡ r1.cols = counted.shape.cols in
    let ed : depth ≡ r1.depth = counted.shape.depth in
    let places : rows * cols ≡ r1.rows * r1.cols = ap (λ j. j * cols) counted.shape.rows ∙ ap (λ j. r1.rows * j) ec in
    let mark : (k : ℕ) → k < rows * cols → is_some (get_or r2.pixels k None) ≡ is_some (get_or r1.pixels k None) = λ k inside. mask_at r1 r2 k filled.same (omega (arith, hc, ec)) (omega (arith, inside, places)) in
    let count : (k : ℕ) → k < rows * cols → is_some (get_or r1.pixels k None) ≡ nat_lt 0 (get_or s.counts k 0) = λ k inside. counted.marks k (omega (arith, inside, size)) in
    record {
      raster = sound;
      shape = shape_trans b r1 r2 counted.shape filled.same.shape;
      marks = λ k inside. mark k inside ∙ count k inside;
      values = λ k d inside deep on.
          let on1 : is_some (get_or r1.pixels k None) ≡ true = sym (mark k inside) ∙ on in
          let some : nat_lt 0 (get_or s.counts k 0) ≡ true = sym (count k inside) ∙ on1 in
          filled.put k d (omega arith) (omega (arith, inside, places)) (omega (arith, deep, ed)) on1
          ∙ ap (λ e. mean_at e s.counts s.sums d k) (sym ed)
          ∙ ap (λ t. cond t (mean_of (get_or s.sums (k * depth + d) (pos 0)) (pos (get_or s.counts k 0))) (pos 0)) some;
    }

-- ---- depth by depth

pub fills_none : (counts : List ℕ) (sums : List ℤ) (from n : ℕ) (r : Pixels) → FillsDepths counts sums from n 0 r r
fills_none counts sums from n r = record {
  same = mask_refl r;
  put = λ k e low high deep on. absurd (let no : ⊥ = omega (arith, deep) in no);
  rest = λ k e inside deep out. refl;
}

pub fills_all : (counts : List ℕ) (sums : List ℤ) (from n d : ℕ) (old new : Pixels) → old.depth ≤ d → FillsDepths counts sums from n d old new → Fills counts sums from n old new
fills_all counts sums from n d old new past h = record {
  same = h.same;
  put = λ k e low high deep on. h.put k e low high (omega (arith, deep, past)) on;
  rest = h.rest;
}

between : (place n k : ℕ) → place ≤ k → k < place + n → (k < place) ⊎ (place + n ≤ k) → ⊥
between place n k low high (inl h) = omega (arith, low, h)
between place n k low high (inr h) = omega (arith, high, h)

pub fills_more : (counts : List ℕ) (sums : List ℤ) (place n d : ℕ) (values : List ℤ) (r0 r1 r2 : Pixels) → 0 < r0.cols → d < r0.depth → place + n ≤ r0.rows * r0.cols → length values ≡ n
    → ((i : ℕ) → i < n → get_or values i (pos 0) ≡ mean_at r0.depth counts sums d (place + i)) → PutsFrom r1 r2 place d values
    → FillsDepths counts sums place n d r0 r1 → FillsDepths counts sums place n (d + 1) r0 r2
fills_more counts sums place n d values r0 r1 r2 hc deep few size are puts h =
    let rows : r0.rows ≡ r1.rows = h.same.shape.rows in
    let cols : r0.cols ≡ r1.cols = h.same.shape.cols in
    let depth : r0.depth ≡ r1.depth = h.same.shape.depth in
    let places : r0.rows * r0.cols ≡ r1.rows * r1.cols = ap (λ j. j * r0.cols) rows ∙ ap (λ j. r1.rows * j) cols in
    record {
      same = mask_trans r0 r1 r2 h.same puts.same;
      put = λ k e low high under on. ⊎_elim
          (λ (same : e ≡ d).
          let i = k - place in
          let at : place + i ≡ k = omega (arith, low) in
          let mark : is_some (get_or r1.pixels (place + i) None) ≡ true = ap (λ j. is_some (get_or r1.pixels j None)) at ∙ mask_at r0 r1 k h.same hc (omega (arith, high, few)) ∙ on in
          let put : value_in r2 d (place + i) ≡ mean_at r0.depth counts sums d (place + i) = puts.put i (omega (arith, at, high, size)) mark ∙ are i (omega (arith, at, high)) in
          let P : ℕ → Type 0 = λ j. value_in r2 j k ≡ mean_at r0.depth counts sums j k in
          let Q : ℕ → Type 0 = λ j. value_in r2 d j ≡ mean_at r0.depth counts sums d j in
          subst P (sym same) (subst Q at put))
          (λ (ne : e ≢ d).
          puts.rest k e (omega (arith, high, few, places)) (omega (arith, under, deep, ne, depth)) (λ l g same. ne same) ∙ h.put k e low high (omega (arith, under, ne)) on)
          (cases_eq e d);
      rest = λ k e inside below out.
          puts.rest k e (omega (arith, inside, places)) (omega (arith, below, depth)) (λ l g same. between place n k l (omega (arith, g, size)) out) ∙ h.rest k e inside below out;
    }
