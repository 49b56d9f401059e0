-- Rasters with given values in their blocks.
use Rattle.std.proofs.Common.{[], ℕ, ◌+◌, ◌<◌, ◌≤◌, List, ◌∷◌, arith, ◌++◌, Bool, true, false, cond, ◌≡◌, zero, suc, map, subst, ◌*◌, sym, ap, length, get_or, ◌∙◌, ◌/◌, ◌%◌, ⊎_elim, ◌-◌, min, None, ◌⊎◌, inl, inr}
use Rattle.std.specs.List.{filter, range_with_len, flat_map}
use Rattle.std.proofs.lemmas.List.Concat.{flat_map-cons}
use Rattle.std.proofs.Math.Nat.{mul-le-mul_right}
use Rattle.std.specs.Prelude.{nat_eq, ℤ, pos, All, is_some, Contains}
use Rattle.std.proofs.lemmas.Bool.Decides.{nat_tests}
use Rattle.std.proofs.lemmas.List.{ext_get_or, get_or-map, length-map, get_or_past}
use Rattle.std.proofs.lemmas.Bool.{cases_lt}
use Rattle.std.proofs.lemmas.Nat.{div_below, mul-add-lt, div-mul-add, mod-mul-add}
use Rattle.raster_cells.specs.declared.kind.PixelType.{PixelType}
use Rattle.raster_cells.specs.PixelType.{InRange}
use Rattle.raster_cells.proofs.ValueBits.{zero_in_range}
use Rattle.raster_cells.proofs.Every.{Every, every_map, every_flat_map, every_filter, every_range, same_map}
use Rattle.raster_values.specs.Raster.{Pixels, IsRaster, InShape}
use Rattle.raster_values.specs.Flat.{valid_numbers, marks_of, block_numbers, value_in, revalued, ChangesValues}
use Rattle.raster_values.specs.Places.{SameShape}
use Rattle.raster_values.specs.Block.{SameMask, InBlock, BlocksAreThere, block_values, ScattersBlock, ScattersEach, AllBlocksGive}
use Rattle.raster_values.proofs.NumberedBlocks.{marks_at, block_numbered}
use Rattle.raster_values.proofs.BlockLaws.{partition, has_count, leaves_others, determine}
use Rattle.raster_values.proofs.Revalued.{may_change}

-- ---- rising numbers, and where one stands among them

abbrev Rising : ℕ → ℕ → List ℕ → Type 0
Rising lo hi [] = Unit
Rising lo hi (x ∷ xs) = (lo ≤ x) × ((x < hi) × Rising (x + 1) hi xs)

wider : (lo hi top : ℕ) (xs : List ℕ) → hi ≤ top → Rising lo hi xs → Rising lo top xs
wider lo hi top [] up h = tt
wider lo hi top (x ∷ xs) up h = (h.0, (omega (arith, h.1.0), wider (x + 1) hi top xs up h.1.1))

lower : (low lo hi : ℕ) (xs : List ℕ) → low ≤ lo → Rising lo hi xs → Rising low hi xs
lower low lo hi [] down h = tt
lower low lo hi (x ∷ xs) down h = (omega (arith, h.0), h.1)

rising_append : (lo mid hi : ℕ) (xs ys : List ℕ) → mid ≤ hi → lo ≤ mid → Rising lo mid xs → Rising mid hi ys → Rising lo hi (xs ++ ys)
rising_append lo mid hi [] ys up low h k = lower lo mid hi ys low k
rising_append lo mid hi (x ∷ xs) ys up low h k = (h.0, (omega (arith, h.1.0), rising_append (x + 1) mid hi xs ys up (omega (arith, h.1.0)) h.1.1 k))

rising_filter : (q : ℕ → Bool) (lo hi : ℕ) (xs : List ℕ) → Rising lo hi xs → Rising lo hi (filter q xs)
rising_filter q lo hi [] h = tt
rising_filter q lo hi (x ∷ xs) h =
    elim (q x) as (λ b. Rising lo hi (cond b (x ∷ filter q xs) (filter q xs))) [
      | true ↦ (h.0, (h.1.0, rising_filter q (x + 1) hi xs h.1.1))
      | false ↦ lower lo (x + 1) hi (filter q xs) (omega (arith, h.0)) (rising_filter q (x + 1) hi xs h.1.1)
    ]

rising_range : (base a n : ℕ) → Rising (base + a) (base + a + n) (map (λ j. base + j) (range_with_len a n))
rising_range base a zero = tt
rising_range base a (suc n) =
    let rest : Rising (base + (a + 1)) (base + (a + 1) + n) (map (λ j. base + j) (range_with_len (a + 1) n)) = rising_range base (a + 1) n in (
      omega arith,
      (
        omega arith,
        subst (λ lo. Rising lo (base + a + suc n) (map (λ j. base + j) (range_with_len (a + 1) n))) (let e : base + (a + 1) ≡ base + a + 1 = omega arith in e)
            (subst (λ hi. Rising (base + (a + 1)) hi (map (λ j. base + j) (range_with_len (a + 1) n))) (let e : base + (a + 1) + n ≡ base + a + suc n = omega arith in e) rest),
      ),
    )

-- the numbers of a block rise
rising_rows : (cols col wide row high : ℕ) → col + wide ≤ cols → Rising (row * cols) ((row + high) * cols) (flat_map (λ i. map (λ j. i * cols + j) (range_with_len col wide)) (range_with_len row high))
rising_rows cols col wide row zero across = tt
rising_rows cols col wide row (suc high) across =
    let f : ℕ → List ℕ = λ i. map (λ j. i * cols + j) (range_with_len col wide) in
    let next : (row + 1) * cols ≡ row * cols + cols = omega arith in
    let end : (row + 1 + high) * cols ≡ (row + suc high) * cols = ap (λ n. n * cols) (let e : row + 1 + high ≡ row + suc high = omega arith in e) in
    let up : (row + 1) * cols ≤ (row + suc high) * cols = mul-le-mul_right cols (omega arith) in
    let first : Rising (row * cols) ((row + 1) * cols) (f row) =
    lower (row * cols) (row * cols + col) ((row + 1) * cols) (f row) (omega arith) (wider (row * cols + col) (row * cols + col + wide) ((row + 1) * cols) (f row) (omega arith) (rising_range (row * cols) col wide)) in
    let rest : Rising ((row + 1) * cols) ((row + suc high) * cols) (flat_map f (range_with_len (row + 1) high)) =
    subst (λ hi. Rising ((row + 1) * cols) hi (flat_map f (range_with_len (row + 1) high))) end (rising_rows cols col wide (row + 1) high across) in
    subst (Rising (row * cols) ((row + suc high) * cols)) (sym (flat_map-cons f row (range_with_len (row + 1) high)))
    (rising_append (row * cols) ((row + 1) * cols) ((row + suc high) * cols) (f row) (flat_map f (range_with_len (row + 1) high)) up (omega arith) first rest)

at_least : (lo hi : ℕ) (xs : List ℕ) (i : ℕ) → Rising lo hi xs → i < length xs → lo ≤ get_or xs i 0
at_least lo hi [] i h below = absurd (let no : ⊥ = omega arith in no)
at_least lo hi (x ∷ xs) zero h below = h.0
at_least lo hi (x ∷ xs) (suc i) h below = omega (arith, at_least (x + 1) hi xs i h.1.1 (omega arith), h.0)

-- how many elements stand before the first x
place_of : ℕ → List ℕ → ℕ
place_of x [] = 0
place_of x (y ∷ ys) = cond (nat_eq x y) 0 (suc (place_of x ys))

place_found : (lo hi : ℕ) (xs : List ℕ) (i : ℕ) → Rising lo hi xs → i < length xs → place_of (get_or xs i 0) xs ≡ i
unfolding place_of
place_found lo hi [] i h below = absurd (let no : ⊥ = omega arith in no)
place_found lo hi (x ∷ xs) zero h below = let t : nat_eq x x ≡ true = grind (arith, nat_tests) in ap (λ u. cond u 0 (suc (place_of x xs))) t
place_found lo hi (x ∷ xs) (suc i) h below =
    let y = get_or xs i 0 in
    let more : x + 1 ≤ y = at_least (x + 1) hi xs i h.1.1 (omega arith) in
    let f : nat_eq y x ≡ false = grind (arith, nat_tests) in
    ap (λ u. cond u 0 (suc (place_of y xs))) f ∙ ap suc (place_found (x + 1) hi xs i h.1.1 (omega arith))

-- values by the places of rising numbers are the values in order
by_place : (lo hi : ℕ) (xs : List ℕ) (vs : List ℤ) → Rising lo hi xs → length vs ≡ length xs → map (λ k. get_or vs (place_of k xs) (pos 0)) xs ≡ vs
by_place lo hi xs vs h long =
    let f : ℕ → ℤ = λ k. get_or vs (place_of k xs) (pos 0) in
    ext_get_or (pos 0) (map f xs) vs (length-map xs f ∙ sym long) (λ i below.
    let less : i < length xs = omega (arith, length-map xs f) in
    get_or-map f xs i 0 (pos 0) less ∙ ap (λ n. get_or vs n (pos 0)) (place_found lo hi xs i h less))

-- ---- a raster with given values in its blocks

-- what pixel number k gets at a depth: of its block's values the one whose place is that of k among the block's valid pixels
abbrev given : Pixels → ℕ → (ℕ → ℕ → ℕ → List ℤ) → ℕ → ℕ → ℤ → ℤ
given r side values k d v =
    get_or (values (k / r.cols / side) (k % r.cols / side) d) (place_of k (valid_numbers r (k / r.cols / side * side) (k % r.cols / side * side) side)) (pos 0)

some_in_range : (kind : PixelType) (vs : List ℤ) (i : ℕ) → All (InRange kind) vs → InRange kind (get_or vs i (pos 0))
some_in_range kind vs i h =
    ⊎_elim
    (λ (lt : i < length vs). h i (pos 0) lt)
    (λ (ge : length vs ≤ i). subst (InRange kind) (sym (get_or_past vs i (pos 0) ge)) (zero_in_range kind))
    (cases_lt i (length vs))

down : (n side : ℕ) → n / side * side ≤ n
down n side = omega arith

-- the block of a pixel begins in the shape
block_starts : (r : Pixels) (side k : ℕ) → IsRaster r → k < length r.pixels → InShape r (k / r.cols / side * side) (k % r.cols / side * side)
block_starts r side k sound below =
    let wide : 0 < r.cols = sound.shape.cols_above in
    let row : k / r.cols < r.rows = div_below k r.cols r.rows wide (omega (arith, sound.places)) in
    let col : k % r.cols < r.cols = omega arith in
    (omega (arith, down (k / r.cols) side), omega (arith, down (k % r.cols) side))

same_numbers : (r s : Pixels) (row col side : ℕ) → SameShape r s → marks_of s ≡ marks_of r → valid_numbers s row col side ≡ valid_numbers r row col side
same_numbers r s row col side shape marks =
    ap (λ ms. filter (λ k. get_or ms k false) (block_numbers s row col side)) marks
    ∙ ap (filter (λ k. get_or (marks_of r) k false))
    (ap (λ n. flat_map (λ i. map (λ j. i * n + j) (range_with_len col (min side (n - col)))) (range_with_len row (min side (s.rows - row)))) (sym shape.cols)
    ∙ ap (λ n. flat_map (λ i. map (λ j. i * r.cols + j) (range_with_len col (min side (r.cols - col)))) (range_with_len row (min side (n - row)))) (sym shape.rows))

same_mask : (r s : Pixels) → SameShape r s → marks_of s ≡ marks_of r → SameMask r s
same_mask r s shape marks = record {
  shape = shape;
  places = λ i j within.
      ap (λ n. is_some (get_or s.pixels (i * n + j) None)) (sym shape.cols) ∙ sym (marks_at s (i * r.cols + j)) ∙ ap (λ ms. get_or ms (i * r.cols + j) false) marks ∙ marks_at r (i * r.cols + j);
}

-- what holds of each valid pixel of a block holds of their numbers
every_number : (P : ℕ → Type 0) (r : Pixels) (row col side : ℕ) → ((i j : ℕ) → InShape r i j → InBlock row col side i j → get_or (marks_of r) (i * r.cols + j) false ≡ true → P (i * r.cols + j)) → Every P (valid_numbers r row col side)
every_number P r row col side h =
    let q : ℕ → Bool = λ k. get_or (marks_of r) k false in
    let wide = min side (r.cols - col) in
    let high = min side (r.rows - row) in
    every_filter P q (block_numbers r row col side)
    (every_flat_map (λ k. q k ≡ true → P k) (λ i. map (λ j. i * r.cols + j) (range_with_len col wide)) (range_with_len row high)
    (every_range (λ i. Every (λ k. q k ≡ true → P k) (map (λ j. i * r.cols + j) (range_with_len col wide))) row high (λ i from below.
    every_map (λ k. q k ≡ true → P k) (λ j. i * r.cols + j) (range_with_len col wide)
    (every_range (λ j. q (i * r.cols + j) ≡ true → P (i * r.cols + j)) col wide (λ j right left on.
    h i j (omega arith, omega arith) (record { below = from; above = omega arith; right = right; left = omega arith }) on)))))

pub given_blocks : BlocksAreThere
given_blocks r side values sound wide fits =
    let g = given r side values in
    let changes : ChangesValues r (revalued r g) g = may_change r g sound (λ k d below on low.
    some_in_range r.kind (values (k / r.cols / side) (k % r.cols / side) d) _ (fits (k / r.cols / side) (k % r.cols / side) d (block_starts r side k sound below) low).1) in
    let s = revalued r g in (
      s,
      record {
        raster = changes.raster;
        same = same_mask r s changes.shape changes.marks;
        blocks = λ a b d start low.
            let row = a * side in
            let col = b * side in
            let numbers = valid_numbers r row col side in
            let across : col + min side (r.cols - col) ≤ r.cols = omega (arith, start.1) in
            let rising : Rising (row * r.cols) ((row + min side (r.rows - row)) * r.cols) numbers =
            rising_filter (λ k. get_or (marks_of r) k false) _ _ (block_numbers r row col side) (rising_rows r.cols col (min side (r.cols - col)) row (min side (r.rows - row)) across) in
            let long : length (values a b d) ≡ length numbers =
            (fits a b d start low).0 ∙ sym (has_count r row col side d) ∙ ap length (block_numbered r row col side d) ∙ length-map numbers (value_in r d) in
            let each : Every (λ k. value_in s d k ≡ get_or (values a b d) (place_of k numbers) (pos 0)) numbers =
            every_number (λ k. value_in s d k ≡ get_or (values a b d) (place_of k numbers) (pos 0)) r row col side (λ i j within there on.
            let k = i * r.cols + j in
            let below : k < length r.pixels = omega (arith, mul-add-lt i r.cols j r.rows within.0 within.1, sound.places) in
            let at = (partition side i j wide).1 a b there in
            let of_row : k / r.cols / side ≡ a = ap (λ n. n / side) (div-mul-add i r.cols j within.1) ∙ sym at.0 in
            let of_col : k % r.cols / side ≡ b = ap (λ n. n / side) (mod-mul-add i r.cols j within.1) ∙ sym at.1 in
            changes.values k d below on low
            ∙ ap (λ x. get_or (values x (k % r.cols / side) d) (place_of k (valid_numbers r (x * side) (k % r.cols / side * side) side)) (pos 0)) of_row
            ∙ ap (λ y. get_or (values a y d) (place_of k (valid_numbers r row (y * side) side)) (pos 0)) of_col) in
            block_numbered s row col side d ∙ ap (map (value_in s d)) (same_numbers r s row col side changes.shape changes.marks)
            ∙ same_map (value_in s d) (λ k. get_or (values a b d) (place_of k numbers) (pos 0)) numbers each
            ∙ by_place (row * r.cols) ((row + min side (r.rows - row)) * r.cols) numbers (values a b d) rising long;
      },
    )

-- ---- all blocks scattered

joined : (r s t : Pixels) → SameMask r s → SameMask s t → SameMask r t
joined r s t h k = record {
  shape = record { kind = h.shape.kind ∙ k.shape.kind; rows = h.shape.rows ∙ k.shape.rows; cols = h.shape.cols ∙ k.shape.cols; depth = h.shape.depth ∙ k.shape.depth };
  places = λ i j within. k.places i j (omega (arith, within.0, h.shape.rows), omega (arith, within.1, h.shape.cols)) ∙ h.places i j within;
}

this_or_other : (a b d x y z : ℕ) → ((a ≡ x) × ((b ≡ y) × (d ≡ z))) ⊎ (a ≡ x → b ≡ y → d ≡ z → ⊥)
this_or_other a b d x y z = grind arith

-- a block has r's values at a depth
abbrev Has : Pixels → ℕ → Pixels → ℕ → ℕ → ℕ → Type 0
Has r side s a b d = block_values s (a * side) (b * side) side d ≡ block_values r (a * side) (b * side) side d

scattered_here : (r mid : Pixels) (side a b d x y z : ℕ) → a ≡ x → b ≡ y → d ≡ z → Has r side mid x y z → Has r side mid a b d
scattered_here r mid side a b d x y z p q s h = subst (λ i. Has r side mid i b d) (sym p) (subst (λ j. Has r side mid x j d) (sym q) (subst (λ e. Has r side mid x y e) (sym s) h))

-- one scattering leaves what other blocks have, and other depths
still_has : (r old mid : Pixels) (side a b d x y z : ℕ) → 0 < side → d < old.depth → (a ≡ x → b ≡ y → d ≡ z → ⊥) → ScattersBlock old mid (x * side) (y * side) side z (block_values r (x * side) (y * side) side z)
    → Has r side old a b d → Has r side mid a b d
still_has r old mid side a b d x y z wide low other scatters h =
    leaves_others old mid (x * side) (y * side) side z _ (a * side) (b * side) side d scatters low (λ i j here there is.
    let one = (partition side i j wide).1 a b here in
    let two = (partition side i j wide).1 x y there in
    other (one.0 ∙ sym two.0) (one.1 ∙ sym two.1) is) ∙ h

in_rest : (c : ℕ × ℕ × ℕ) (rest : List (ℕ × ℕ × ℕ)) (a b d : ℕ) → (a ≡ c.0 → b ≡ c.1 → d ≡ c.2 → ⊥) → Contains (c ∷ rest) (a, b, d) → Contains rest (a, b, d)
in_rest c rest a b d other (zero, below, e) = absurd (other (sym (ap (λ (t : ℕ × ℕ × ℕ). t.0) e)) (sym (ap (λ (t : ℕ × ℕ × ℕ). t.1) e)) (sym (ap (λ (t : ℕ × ℕ × ℕ). t.2) e)))
in_rest c rest a b d other (suc k, below, e) = (k, omega arith, e)

scattered_each : (r old new : Pixels) (side : ℕ) (order : List (ℕ × ℕ × ℕ)) → 0 < side → SameMask r old → ScattersEach r side order old new
    → SameMask r new × ((a b d : ℕ) → d < r.depth → Has r side old a b d ⊎ Contains order (a, b, d) → Has r side new a b d)
scattered_each r old new side [] wide same e = (
  subst (SameMask r) (sym e) same,
  λ a b d low. ⊎_elim
      (λ (h : Has r side old a b d). subst (λ s. Has r side s a b d) (sym e) h)
      (λ (h : Contains [] (a, b, d)). absurd (let no : ⊥ = omega (arith, h.1) in no)),
)
scattered_each r old new side (c ∷ rest) wide same (mid, (scatters, after)) =
    let next = scattered_each r mid new side rest wide (joined r old mid same scatters.same) after in (
      next.0,
      λ a b d low from. ⊎_elim
          (λ (this : (a ≡ c.0) × ((b ≡ c.1) × (d ≡ c.2))). next.1 a b d low (inl (scattered_here r mid side a b d c.0 c.1 c.2 this.0 this.1.0 this.1.1 scatters.block)))
          (λ (other : a ≡ c.0 → b ≡ c.1 → d ≡ c.2 → ⊥). ⊎_elim
          (λ (h : Has r side old a b d). next.1 a b d low (inl (still_has r old mid side a b d c.0 c.1 c.2 wide (omega (arith, same.shape.depth)) other scatters h)))
          (λ (h : Contains (c ∷ rest) (a, b, d)). next.1 a b d low (inr (in_rest c rest a b d other h)))
          from)
          (this_or_other a b d c.0 c.1 c.2),
    )

pub all_give : AllBlocksGive
all_give r old new side order hr hn wide same all scatters =
    let each = scattered_each r old new side order wide same scatters in
    sym (determine r new side hr hn wide each.0 (λ a b d start low. sym (each.1 a b d low (inr (all a b d start low)))))
