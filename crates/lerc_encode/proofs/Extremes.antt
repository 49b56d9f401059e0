-- The least and the greatest value of a raster and of its depths.
use Rattle.std.proofs.Common.{◌≡◌, ℕ, ◌+◌, ◌*◌, ◌<◌, ◌≤◌, zero, suc, true, false, List, [], ◌∷◌, length, get_or, map, refl, sym, ap, ◌∙◌, subst, arith, length-append, Option, Some, None, ◌⊎◌, inl, inr}
use Rattle.std.specs.Prelude.{ℤ, pos, ◌≤ℤ◌, is_some, unwrap_or, IfSome, All, Contains, fold, cond}
use Rattle.std.specs.Int.{int_min, int_max}
use Rattle.std.specs.List.{flat_map, range_with_len}
use Rattle.std.proofs.lemmas.Int.{ints, clamps, fold-int_min_reached, fold-int_max_reached}
use Rattle.lane_kernels.specs.Kernels.{IsLeast, IsGreatest}
use Rattle.std.proofs.lemmas.List.{get_or-map}
use Rattle.std.proofs.lemmas.List.FromFn.{get_or-map-range_with_len, length-map-range_with_len}
use Rattle.raster_values.specs.Raster.{Pixels, IsRaster, IsPixel, values_of, valid_count}
use Rattle.raster_cells.specs.PixelType.{InRange}
use Rattle.raster_values.specs.Flat.{marks_of, value_in}
use Rattle.raster_cells.specs.declared.kind.PixelType.{PixelType}
use Rattle.micro_block.proofs.Written.{zero_of, least_in_range}
use Rattle.micro_block.specs.ChosenBlock.{least_value}
use Rattle.lerc_encode.specs.Ranges.{greatest_value, depth_values, at_depth, leasts, greatests}
use Rattle.lerc_encode.proofs.Members.{Has, at_index, index_of, in_flat_map, in_map, in_range, has_flat_map, has_map, has_range}

fold_max : (a : ℤ) (vs : List ℤ) → (a ≤ℤ fold int_max a vs) × ((v : ℤ) → Has v vs → v ≤ℤ fold int_max a vs)
fold_max a [] = (omega (arith, ints), λ v h. absurd h)
fold_max a (w ∷ vs) = joined (fold_max (int_max a w) vs)
  where
    joined : (int_max a w ≤ℤ fold int_max (int_max a w) vs) × ((v : ℤ) → Has v vs → v ≤ℤ fold int_max (int_max a w) vs) → (a ≤ℤ fold int_max a (w ∷ vs)) × ((v : ℤ) → Has v (w ∷ vs) → v ≤ℤ fold int_max a (w ∷ vs))
    joined r = (let low = r.0 in omega (arith, ints, clamps, low), member)
      where
        member : (v : ℤ) → Has v (w ∷ vs) → v ≤ℤ fold int_max a (w ∷ vs)
        member v (inl e) = let low = r.0 in subst (λ (u : ℤ). u ≤ℤ fold int_max a (w ∷ vs)) (sym e) (omega (arith, ints, clamps, low))
        member v (inr h) = r.1 v h

pub greatest_above : (vs : List ℤ) (v : ℤ) → Has v vs → v ≤ℤ greatest_value vs
greatest_above [] v h = absurd h
greatest_above (w ∷ vs) v (inl e) = subst (λ (u : ℤ). u ≤ℤ greatest_value (w ∷ vs)) (sym e) (fold_max w vs).0
greatest_above (w ∷ vs) v (inr h) = (fold_max w vs).1 v h

fold_min : (a : ℤ) (vs : List ℤ) → (fold int_min a vs ≤ℤ a) × ((v : ℤ) → Has v vs → fold int_min a vs ≤ℤ v)
fold_min a [] = (omega (arith, ints), λ v h. absurd h)
fold_min a (w ∷ vs) = joined (fold_min (int_min a w) vs)
  where
    joined : (fold int_min (int_min a w) vs ≤ℤ int_min a w) × ((v : ℤ) → Has v vs → fold int_min (int_min a w) vs ≤ℤ v) → (fold int_min a (w ∷ vs) ≤ℤ a) × ((v : ℤ) → Has v (w ∷ vs) → fold int_min a (w ∷ vs) ≤ℤ v)
    joined r = (let low = r.0 in omega (arith, ints, clamps, low), member)
      where
        member : (v : ℤ) → Has v (w ∷ vs) → fold int_min a (w ∷ vs) ≤ℤ v
        member v (inl e) = let low = r.0 in subst (λ (u : ℤ). fold int_min a (w ∷ vs) ≤ℤ u) (sym e) (omega (arith, ints, clamps, low))
        member v (inr h) = r.1 v h

pub least_below : (vs : List ℤ) (v : ℤ) → Has v vs → least_value vs ≤ℤ v
least_below [] v h = absurd h
least_below (w ∷ vs) v (inl e) = subst (λ (u : ℤ). least_value (w ∷ vs) ≤ℤ u) (sym e) (fold_min w vs).0
least_below (w ∷ vs) v (inr h) = (fold_min w vs).1 v h

max_in_range : (kind : PixelType) (a : ℤ) (vs : List ℤ) → InRange kind a → ((v : ℤ) → Has v vs → InRange kind v) → InRange kind (fold int_max a vs)
max_in_range kind a [] h hs = h
max_in_range kind a (v ∷ vs) h hs =
    let hv = hs v (inl refl) in
    max_in_range kind (int_max a v) vs (omega (arith, ints, clamps, h, hv), omega (arith, ints, clamps, h, hv)) (λ w m. hs w (inr m))

pub greatest_in_range : (kind : PixelType) (vs : List ℤ) → ((v : ℤ) → Has v vs → InRange kind v) → InRange kind (greatest_value vs)
greatest_in_range kind [] hs = zero_of kind
greatest_in_range kind (v ∷ vs) hs = max_in_range kind v vs (hs v (inl refl)) (λ w m. hs w (inr m))

pub all_of : (P : ℤ → Type 0) (vs : List ℤ) → ((v : ℤ) → Has v vs → P v) → All P vs
all_of P vs hs = λ i d h. hs (get_or vs i d) (at_index d vs i h)

pub in_order : (vs : List ℤ) → least_value vs ≤ℤ greatest_value vs
in_order [] = omega (arith, ints)
in_order (v ∷ vs) = let low = (fold_min v vs).0 in let high = (fold_max v vs).0 in omega (arith, ints, low, high)

-- ---- all values

counted_up : (a : ℕ) (ps : List (Option (List ℤ))) → a ≤ fold (λ b p. b + cond (is_some p) 1 0) a ps
counted_up a [] = omega arith
counted_up a (p ∷ ps) = let h = counted_up (a + cond (is_some p) 1 0) ps in omega (arith, h)

pub no_values : (ps : List (Option (List ℤ))) → fold (λ b p. b + cond (is_some p) 1 0) 0 ps ≡ 0 → values_of ps ≡ []
no_values [] h = refl
no_values (None ∷ ps) h = no_values ps h
no_values (Some vs ∷ ps) h = absurd (let up : 1 ≤ 0 = subst (λ n. 1 ≤ n) h (counted_up 1 ps) in omega (arith, up))

long_values : (kind : PixelType) (depth a : ℕ) (ps : List (Option (List ℤ))) → ((k : ℕ) → k < length ps → IsPixel kind depth (get_or ps k None)) → length (values_of ps) + a * depth ≡ fold (λ b p. b + cond (is_some p) 1 0) a ps * depth
long_values kind depth a [] each = omega arith
long_values kind depth a (None ∷ ps) each =
    long_values kind depth a ps (λ k h. each (suc k) (omega (arith, h))) ∙ ap (λ b. fold (λ b p. b + cond (is_some p) 1 0) b ps * depth) (let e : a ≡ a + 0 = omega arith in e)
long_values kind depth a (Some vs ∷ ps) each =
    let e = (each 0 (omega arith)).0 in
    let l : length (values_of (Some vs ∷ ps)) ≡ length vs + length (values_of ps) = length-append vs (values_of ps) in
    let r = long_values kind depth (a + 1) ps (λ k h. each (suc k) (omega (arith, h))) in
    let t : (a + 1) * depth ≡ a * depth + depth = omega arith in
    (let go : length (values_of (Some vs ∷ ps)) + a * depth ≡ length (values_of ps) + (a + 1) * depth = omega (arith, l, e, t) in go) ∙ r

pub length_values : (r : Pixels) → IsRaster r → length (values_of r.pixels) ≡ valid_count r * r.depth
length_values r is = (let e : length (values_of r.pixels) ≡ length (values_of r.pixels) + 0 * r.depth = omega arith in e) ∙ long_values r.kind r.depth 0 r.pixels is.each

pub values_in_range : (r : Pixels) → IsRaster r → (v : ℤ) → Has v (values_of r.pixels) → InRange r.kind v
values_in_range r is v h =
    let m = in_flat_map (λ p. unwrap_or p []) v r.pixels h in
    let i = index_of None m.0 r.pixels m.1.0 in
    of_pixel m.0 (subst (IsPixel r.kind r.depth) i.1.1 (is.each i.0 i.1.0)) m.1.1
  where
    of_pixel : (p : Option (List ℤ)) → IsPixel r.kind r.depth p → Has v (unwrap_or p []) → InRange r.kind v
    of_pixel None e m = absurd m
    of_pixel (Some vs) e m = let j = index_of (pos 0) v vs m in subst (InRange r.kind) j.1.1 (e.1 j.0 (pos 0) j.1.0)

pub depth_in_range : (r : Pixels) → IsRaster r → (d : ℕ) → d < r.depth → (v : ℤ) → Has v (depth_values r d) → InRange r.kind v
unfolding depth_values
depth_in_range r is d low v h =
    let m = in_flat_map (at_depth d) v r.pixels h in
    let i = index_of None m.0 r.pixels m.1.0 in
    of_pixel m.0 (subst (IsPixel r.kind r.depth) i.1.1 (is.each i.0 i.1.0)) m.1.1
  where
    of_pixel : (p : Option (List ℤ)) → IsPixel r.kind r.depth p → Has v (at_depth d p) → InRange r.kind v
    of_pixel None e m = absurd m
    of_pixel (Some vs) e (inl same) = let long = e.0 in subst (InRange r.kind) (sym same) (e.1 d (pos 0) (omega (arith, long, low)))
    of_pixel (Some vs) e (inr m) = absurd m

pub is_valid : (r : Pixels) (k : ℕ) → get_or (marks_of r) k false ≡ true → k < length r.pixels → is_some (get_or r.pixels k None) ≡ true
is_valid r k m h = sym (get_or-map is_some r.pixels k None false h) ∙ m

-- ---- values of a raster

pub value_among : (r : Pixels) (k d : ℕ) → k < length r.pixels → get_or (marks_of r) k false ≡ true → Has (value_in r d k) (depth_values r d)
unfolding depth_values
value_among r k d h m = has_flat_map (at_depth d) (get_or r.pixels k None) (value_in r d k) r.pixels (at_index None r.pixels k h) (among (get_or r.pixels k None) (is_valid r k m h))
  where
    among : (p : Option (List ℤ)) → is_some p ≡ true → Has (get_or (unwrap_or p []) d (pos 0)) (at_depth d p)
    among None s = absurd (cc)
    among (Some values) s = inl refl

pub value_of_all : (r : Pixels) → IsRaster r → (k d : ℕ) → k < length r.pixels → get_or (marks_of r) k false ≡ true → d < r.depth → Has (value_in r d k) (values_of r.pixels)
value_of_all r is k d h m low = has_flat_map (λ p. unwrap_or p []) (get_or r.pixels k None) (value_in r d k) r.pixels (at_index None r.pixels k h) (among (get_or r.pixels k None) (is_valid r k m h) (is.each k h))
  where
    among : (p : Option (List ℤ)) → is_some p ≡ true → IfSome p (λ values. (length values ≡ r.depth) × All (InRange r.kind) values) → Has (get_or (unwrap_or p []) d (pos 0)) (unwrap_or p [])
    among None s e = absurd (cc)
    among (Some values) s e = let long = e.0 in at_index (pos 0) values d (omega (arith, long, low))

-- a depth has as many values as pixels are valid
one_each : (d a : ℕ) (ps : List (Option (List ℤ))) → length (flat_map (at_depth d) ps) + a ≡ fold (λ b p. b + cond (is_some p) 1 0) a ps
one_each d a [] = omega arith
one_each d a (None ∷ ps) = one_each d a ps ∙ ap (λ b. fold (λ b p. b + cond (is_some p) 1 0) b ps) (let e : a ≡ a + 0 = omega arith in e)
one_each d a (Some vs ∷ ps) = (let e : length (flat_map (at_depth d) (Some vs ∷ ps)) + a ≡ length (flat_map (at_depth d) ps) + (a + 1) = omega arith in e) ∙ one_each d (a + 1) ps

pub depth_count : (r : Pixels) (d : ℕ) → length (depth_values r d) ≡ valid_count r
unfolding depth_values
depth_count r d = (let e : length (flat_map (at_depth d) r.pixels) ≡ length (flat_map (at_depth d) r.pixels) + 0 = omega arith in e) ∙ one_each d 0 r.pixels

-- the least and the greatest value are the type's
pub depth_least_fits : (r : Pixels) → IsRaster r → (d : ℕ) → d < r.depth → InRange r.kind (least_value (depth_values r d))
depth_least_fits r is d low = least_in_range r.kind (depth_values r d) (all_of (InRange r.kind) (depth_values r d) (depth_in_range r is d low))

pub depth_greatest_fits : (r : Pixels) → IsRaster r → (d : ℕ) → d < r.depth → InRange r.kind (greatest_value (depth_values r d))
depth_greatest_fits r is d low = greatest_in_range r.kind (depth_values r d) (depth_in_range r is d low)

-- ---- the ends of all values by those of the depths

no_list : (vs : List ℤ) → length vs ≡ 0 → vs ≡ []
no_list [] e = refl
no_list (v ∷ vs) e = absurd (omega (arith, e))

pub depth_none : (r : Pixels) (d : ℕ) → valid_count r ≡ 0 → depth_values r d ≡ []
depth_none r d e = no_list (depth_values r d) (depth_count r d ∙ e)

contained : (vs : List ℤ) (m : ℤ) → Contains vs m → Has m vs
contained vs m h = subst (λ (u : ℤ). Has u vs) h.2 (at_index m vs h.0 h.1)

some_member : (vs : List ℤ) (m : ℤ) → Has m vs → 0 < length vs
some_member [] m h = absurd h
some_member (v ∷ vs) m h = omega arith

-- the least of some values is one of them, and so is the greatest
least_member : (vs : List ℤ) → 0 < length vs → Has (least_value vs) vs
least_member [] some = absurd (omega (arith, some))
least_member (v ∷ vs) some = by (fold-int_min_reached v vs (least_value (v ∷ vs)) refl)
  where
    by : (least_value (v ∷ vs) ≡ v) ⊎ Contains vs (least_value (v ∷ vs)) → Has (least_value (v ∷ vs)) (v ∷ vs)
    by (inl e) = inl e
    by (inr h) = inr (contained vs (least_value (v ∷ vs)) h)

greatest_member : (vs : List ℤ) → 0 < length vs → Has (greatest_value vs) vs
greatest_member [] some = absurd (omega (arith, some))
greatest_member (v ∷ vs) some = by (fold-int_max_reached v vs (greatest_value (v ∷ vs)) refl)
  where
    by : (greatest_value (v ∷ vs) ≡ v) ⊎ Contains vs (greatest_value (v ∷ vs)) → Has (greatest_value (v ∷ vs)) (v ∷ vs)
    by (inl e) = inl e
    by (inr h) = inr (contained vs (greatest_value (v ∷ vs)) h)

-- a value of a depth is one of all
depth_of_all : (r : Pixels) → IsRaster r → (d : ℕ) → d < r.depth → (v : ℤ) → Has v (depth_values r d) → Has v (values_of r.pixels)
unfolding depth_values
depth_of_all r is d low v h =
    let m = in_flat_map (at_depth d) v r.pixels h in
    let i = index_of None m.0 r.pixels m.1.0 in
    has_flat_map (λ p. unwrap_or p []) m.0 v r.pixels m.1.0 (of_pixel m.0 (subst (IsPixel r.kind r.depth) i.1.1 (is.each i.0 i.1.0)) m.1.1)
  where
    of_pixel : (p : Option (List ℤ)) → IsPixel r.kind r.depth p → Has v (at_depth d p) → Has v (unwrap_or p [])
    of_pixel None e m = absurd m
    of_pixel (Some vs) e (inl same) = let long = e.0 in subst (λ (u : ℤ). Has u vs) (sym same) (at_index (pos 0) vs d (omega (arith, long, low)))
    of_pixel (Some vs) e (inr m) = absurd m

-- and each of all is one of a depth
all_of_depth : (r : Pixels) → IsRaster r → (v : ℤ) → Has v (values_of r.pixels) → (d : ℕ) × ((d < r.depth) × Has v (depth_values r d))
unfolding depth_values
all_of_depth r is v h =
    let m = in_flat_map (λ p. unwrap_or p []) v r.pixels h in
    let i = index_of None m.0 r.pixels m.1.0 in
    let at = of_pixel m.0 (subst (IsPixel r.kind r.depth) i.1.1 (is.each i.0 i.1.0)) m.1.1 in
    (at.0, (at.1.0, has_flat_map (at_depth at.0) m.0 v r.pixels m.1.0 at.1.1))
  where
    of_pixel : (p : Option (List ℤ)) → IsPixel r.kind r.depth p → Has v (unwrap_or p []) → (d : ℕ) × ((d < r.depth) × Has v (at_depth d p))
    of_pixel None e m = absurd m
    of_pixel (Some vs) e m = let j = index_of (pos 0) v vs m in let long = e.0 in let low = j.1.0 in (j.0, (omega (arith, long, low), inl (sym j.1.1)))

-- a number that is below all, and one of them
least_one : (vs : List ℤ) (m : ℤ) → Has m vs → ((v : ℤ) → Has v vs → m ≤ℤ v) → m ≡ least_value vs
least_one vs m h low = let a = least_below vs m h in let b = low (least_value vs) (least_member vs (some_member vs m h)) in omega (arith, ints, a, b)

greatest_one : (vs : List ℤ) (m : ℤ) → Has m vs → ((v : ℤ) → Has v vs → v ≤ℤ m) → m ≡ greatest_value vs
greatest_one vs m h high = let a = greatest_above vs m h in let b = high (greatest_value vs) (greatest_member vs (some_member vs m h)) in omega (arith, ints, a, b)

pub least_is : (vs : List ℤ) (m : ℤ) → IsLeast vs m → m ≡ least_value vs
least_is vs m is = least_one vs m (contained vs m is.0) (λ v h. let i = index_of (pos 0) v vs h in subst (λ (u : ℤ). m ≤ℤ u) i.1.1 (is.1 i.0 (pos 0) i.1.0))

pub greatest_is : (vs : List ℤ) (m : ℤ) → IsGreatest vs m → m ≡ greatest_value vs
greatest_is vs m is = greatest_one vs m (contained vs m is.0) (λ v h. let i = index_of (pos 0) v vs h in subst (λ (u : ℤ). u ≤ℤ m) i.1.1 (is.1 i.0 (pos 0) i.1.0))

-- the list of a number for each depth
at_depths : (f : ℕ → ℤ) (n : ℕ) (m : ℤ) → Has m (map f (range_with_len 0 n)) → (d : ℕ) × ((d < n) × (m ≡ f d))
at_depths f n m h = let a = in_map f m (range_with_len 0 n) h in let b = in_range 0 n a.0 a.1.0 in let high = b.1 in (a.0, (omega (arith, high), a.1.1))

pub length_leasts : (r : Pixels) → length (leasts r) ≡ r.depth
length_leasts r = length-map-range_with_len (λ d. least_value (depth_values r d)) 0 r.depth

pub length_greatests : (r : Pixels) → length (greatests r) ≡ r.depth
length_greatests r = length-map-range_with_len (λ d. greatest_value (depth_values r d)) 0 r.depth

pub at_leasts : (r : Pixels) (d : ℕ) → d < r.depth → get_or (leasts r) d (pos 0) ≡ least_value (depth_values r d)
at_leasts r d low = get_or-map-range_with_len (λ (e : ℕ). least_value (depth_values r e)) 0 r.depth d d (pos 0) low (omega arith)

pub at_greatests : (r : Pixels) (d : ℕ) → d < r.depth → get_or (greatests r) d (pos 0) ≡ greatest_value (depth_values r d)
at_greatests r d low = get_or-map-range_with_len (λ (e : ℕ). greatest_value (depth_values r e)) 0 r.depth d d (pos 0) low (omega arith)

pub whole_least : (r : Pixels) → IsRaster r → least_value (leasts r) ≡ least_value (values_of r.pixels)
whole_least r is = by (valid_count r) refl
  where
    at : (d : ℕ) × ((d < r.depth) × (least_value (leasts r) ≡ least_value (depth_values r d)))
    at =
        let long = length_leasts r in
        at_depths (λ d. least_value (depth_values r d)) r.depth (least_value (leasts r)) (least_member (leasts r) (omega (arith, long, is.shape.depth_above)))

    low : (d : ℕ) → d < r.depth → least_value (leasts r) ≤ℤ least_value (depth_values r d)
    low d h =
        least_below (leasts r) (least_value (depth_values r d)) (has_map (λ e. least_value (depth_values r e)) d (range_with_len 0 r.depth) (has_range 0 r.depth d (omega arith) (omega (arith, h))))

    by : (n : ℕ) → valid_count r ≡ n → least_value (leasts r) ≡ least_value (values_of r.pixels)
    by zero none = at.1.1 ∙ ap least_value (depth_none r at.0 none ∙ sym (no_values r.pixels none))
    by (suc n) some =
        let long = depth_count r at.0 in
        least_one (values_of r.pixels) (least_value (leasts r))
        (depth_of_all r is at.0 at.1.0 (least_value (leasts r)) (subst (λ (v : ℤ). Has v (depth_values r at.0)) (sym at.1.1) (least_member (depth_values r at.0) (omega (arith, long, some)))))
        (λ v h. let d = all_of_depth r is v h in let a = low d.0 d.1.0 in let b = least_below (depth_values r d.0) v d.1.1 in omega (arith, ints, a, b))

pub whole_greatest : (r : Pixels) → IsRaster r → greatest_value (greatests r) ≡ greatest_value (values_of r.pixels)
whole_greatest r is = by (valid_count r) refl
  where
    at : (d : ℕ) × ((d < r.depth) × (greatest_value (greatests r) ≡ greatest_value (depth_values r d)))
    at =
        let long = length_greatests r in
        at_depths (λ d. greatest_value (depth_values r d)) r.depth (greatest_value (greatests r)) (greatest_member (greatests r) (omega (arith, long, is.shape.depth_above)))

    high : (d : ℕ) → d < r.depth → greatest_value (depth_values r d) ≤ℤ greatest_value (greatests r)
    high d h =
        greatest_above (greatests r) (greatest_value (depth_values r d)) (has_map (λ e. greatest_value (depth_values r e)) d (range_with_len 0 r.depth) (has_range 0 r.depth d (omega arith) (omega (arith, h))))

    by : (n : ℕ) → valid_count r ≡ n → greatest_value (greatests r) ≡ greatest_value (values_of r.pixels)
    by zero none = at.1.1 ∙ ap greatest_value (depth_none r at.0 none ∙ sym (no_values r.pixels none))
    by (suc n) some =
        let long = depth_count r at.0 in
        greatest_one (values_of r.pixels) (greatest_value (greatests r))
        (depth_of_all r is at.0 at.1.0 (greatest_value (greatests r)) (subst (λ (v : ℤ). Has v (depth_values r at.0)) (sym at.1.1) (greatest_member (depth_values r at.0) (omega (arith, long, some)))))
        (λ v h. let d = all_of_depth r is v h in let a = high d.0 d.1.0 in let b = greatest_above (depth_values r d.0) v d.1.1 in omega (arith, ints, a, b))

all_depths : (P : ℤ → Type 0) (f : ℕ → ℤ) (n : ℕ) → ((d : ℕ) → d < n → P (f d)) → All P (map f (range_with_len 0 n))
all_depths P f n h = all_of P (map f (range_with_len 0 n)) (λ v m. let a = at_depths f n v m in subst P (sym a.1.1) (h a.0 a.1.0))

pub leasts_fit : (r : Pixels) → IsRaster r → All (InRange r.kind) (leasts r)
leasts_fit r is = all_depths (InRange r.kind) (λ d. least_value (depth_values r d)) r.depth (depth_least_fits r is)

pub greatests_fit : (r : Pixels) → IsRaster r → All (InRange r.kind) (greatests r)
greatests_fit r is = all_depths (InRange r.kind) (λ d. greatest_value (depth_values r d)) r.depth (depth_greatest_fits r is)

pub all_least_fits : (r : Pixels) → IsRaster r → InRange r.kind (least_value (values_of r.pixels))
all_least_fits r is = least_in_range r.kind (values_of r.pixels) (all_of (InRange r.kind) (values_of r.pixels) (values_in_range r is))

pub all_greatest_fits : (r : Pixels) → IsRaster r → InRange r.kind (greatest_value (values_of r.pixels))
all_greatest_fits r is = greatest_in_range r.kind (values_of r.pixels) (values_in_range r is)
