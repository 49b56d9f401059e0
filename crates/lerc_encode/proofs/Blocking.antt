-- Blocks by their numbers: how many there are, where they stand, and how long they are.
use Rattle.std.proofs.Common.{◌≡◌, ℕ, ◌+◌, ◌-◌, ◌*◌, ◌/◌, ◌%◌, ◌<◌, ◌≤◌, zero, suc, List, [], ◌∷◌, ◌++◌, length, get_or, take, drop, refl, sym, ap, ◌∙◌, subst, arith, length-append, append_assoc, Option, Some, None, ◌⊎◌, inl, inr}
use Rattle.std.specs.Prelude.{ℤ, pos, All, unwrap_or}
use Rattle.std.proofs.lemmas.Bool.{cases_lt}
use Rattle.std.proofs.lemmas.Nat.{div_below, mod_below}
use Rattle.std.proofs.lemmas.List.{get_or_past, take_at, drop_at, drop-drop, take_rest}
use Rattle.std.proofs.lemmas.List.Elements.{All-map}
use Rattle.std.proofs.Math.Nat.{mul-le-mul_left, mul-le-mul_right}
use borrow.Rule.Slice.PartMut.{put_mid}
use Rattle.bit_stuff.proofs.Buffers.{end_written}
use Rattle.raster_cells.specs.declared.kind.PixelType.{PixelType}
use Rattle.raster_cells.specs.PixelType.{InRange, bytes_of}
use Rattle.raster_values.specs.Raster.{Pixels, IsRaster, IsPixel}
use Rattle.raster_values.specs.Block.{block_values, block_count}
use Rattle.raster_values.specs.Flat.{value_in}
use Rattle.raster_values.proofs.BlockLaws.{has_count}
use Rattle.raster_values.proofs.NumberedBlocks.{block_numbered}
use Rattle.raster_cells.proofs.Pack.{length-values_bytes}
use Rattle.raster_cells.proofs.Spelled.{few_bytes}
use Rattle.raster_cells.proofs.ValueBits.{zero_in_range}
use Rattle.lerc_header.specs.declared.header.Header.{Header}
use Rattle.micro_block.specs.Fewest.{first_least}
use Rattle.micro_block.specs.ChosenBlock as micro
use Rattle.micro_block.specs.ChosenBlock.{block_bytes, chosen_form, written_form_bytes, forms}
use Rattle.micro_block.proofs.Fewest.{IsTaken, is_first_least}
use Rattle.lerc_grammar.specs.Blocks.{blocks_across, blocks_down, coded_blocks, block_depth, block_row, block_col}
use Rattle.lerc_encode.specs.inside.Blocked.{IsBlocked}

-- ---- how many

-- no more blocks than places
pub blocks_few : (n side : ℕ) → 0 < side → 0 < n → (n + side - 1) / side ≤ n
blocks_few n side some above =
    let one : n * 1 ≤ n * side = mul-le-mul_left n some in
    let next : (n + 1) * side ≡ n * side + side = omega arith in
    let below = div_below (n + side - 1) side (n + 1) some (omega (arith, one, next, above, some)) in
    omega (arith, below)

-- a block begins within
pub begins_within : (b n side : ℕ) → 0 < side → b < (n + side - 1) / side → b * side < n
begins_within b n side some below =
    let up : (b + 1) * side ≤ (n + side - 1) / side * side = mul-le-mul_right side (let t : b + 1 ≤ (n + side - 1) / side = omega (arith, below) in t) in
    let next : (b + 1) * side ≡ b * side + side = omega arith in
    let whole : (n + side - 1) / side * side ≤ n + side - 1 = omega (arith, some) in
    omega (arith, up, next, whole, some)

pub count_few : (h : Header) (r : Pixels) → IsBlocked h r → coded_blocks h ≤ 16777216
count_few h r is =
    let rows_some : 0 < h.rows = subst (λ n. 0 < n) (sym is.rows) is.sound.shape.rows_above in
    let cols_some : 0 < h.cols = subst (λ n. 0 < n) (sym is.cols) is.sound.shape.cols_above in
    let down = blocks_few h.rows h.side is.side_above rows_some in
    let across = blocks_few h.cols h.side is.side_above cols_some in
    let a : blocks_down h * blocks_across h ≤ h.rows * blocks_across h = mul-le-mul_right (blocks_across h) down in
    let b : h.rows * blocks_across h ≤ h.rows * h.cols = mul-le-mul_left h.rows across in
    let c : blocks_down h * blocks_across h * h.depth ≤ h.rows * h.cols * h.depth = mul-le-mul_right h.depth (omega (arith, a, b)) in
    let all : h.rows * h.cols * h.depth ≤ 16777216 = subst (λ n. n ≤ 16777216) (λ t. sym is.rows t * sym is.cols t * sym is.depth t) is.sound.shape.size in
    omega (arith, c, all)

-- in a row of blocks, at all depths
pub row_few : (h : Header) (r : Pixels) → IsBlocked h r → blocks_across h * h.depth ≤ 16777216
row_few h r is =
    let rows_some : 1 ≤ h.rows = subst (λ n. 1 ≤ n) (sym is.rows) (omega (arith, is.sound.shape.rows_above)) in
    let cols_some : 0 < h.cols = subst (λ n. 0 < n) (sym is.cols) is.sound.shape.cols_above in
    let across = blocks_few h.cols h.side is.side_above cols_some in
    let all : h.rows * h.cols * h.depth ≤ 16777216 = subst (λ n. n ≤ 16777216) (λ t. sym is.rows t * sym is.cols t * sym is.depth t) is.sound.shape.size in
    let wide : blocks_across h * h.depth ≤ h.cols * h.depth = mul-le-mul_right h.depth across in
    let one : 1 * (h.cols * h.depth) ≤ h.rows * (h.cols * h.depth) = mul-le-mul_right (h.cols * h.depth) rows_some in
    omega (arith, wide, one, all)

-- ---- where

pub row_within : (h : Header) (r : Pixels) → IsBlocked h r → (k : ℕ) → k < coded_blocks h → block_row h k < h.rows
row_within h r is k below =
    let deep : 0 < h.depth = subst (λ n. 0 < n) (sym is.depth) is.sound.shape.depth_above in
    let block : k / h.depth < blocks_down h * blocks_across h = div_below k h.depth (blocks_down h * blocks_across h) deep below in
    begins_within (k / h.depth / blocks_across h) h.rows h.side is.side_above (div_below (k / h.depth) (blocks_across h) (blocks_down h) (some_across (blocks_across h) block) block)
  where
    some_across : (wide : ℕ) → k / h.depth < blocks_down h * wide → 0 < wide
    some_across zero b = absurd (let t : blocks_down h * 0 ≡ 0 = omega arith in omega (arith, t, b))
    some_across (suc wide) b = omega arith

pub col_within : (h : Header) (r : Pixels) → IsBlocked h r → (k : ℕ) → block_col h k < h.cols
col_within h r is k =
    let cols_some : 0 < h.cols = subst (λ n. 0 < n) (sym is.cols) is.sound.shape.cols_above in
    begins_within (k / h.depth % blocks_across h) h.cols h.side is.side_above (mod_below (k / h.depth) (blocks_across h) (across_some h.cols h.side is.side_above cols_some))
  where
    across_some : (n side : ℕ) → 0 < side → 0 < n → 0 < (n + side - 1) / side
    across_some n side some above = grind arith

pub depth_within : (h : Header) (r : Pixels) → IsBlocked h r → (k : ℕ) → block_depth h k < h.depth
depth_within h r is k = mod_below k h.depth (subst (λ n. 0 < n) (sym is.depth) is.sound.shape.depth_above)

-- ---- the values

-- each value of a raster is the type's
pub value_fits : (r : Pixels) → IsRaster r → (d k : ℕ) → InRange r.kind (value_in r d k)
value_fits r is d k = by (cases_lt k (length r.pixels))
  where
    in_list : (vs : List ℤ) → All (InRange r.kind) vs → (d < length vs) ⊎ (length vs ≤ d) → InRange r.kind (get_or vs d (pos 0))
    in_list vs all (inl low) = all d (pos 0) low
    in_list vs all (inr past) = subst (InRange r.kind) (sym (get_or_past vs d (pos 0) past)) (zero_in_range r.kind)

    of_pixel : (p : Option (List ℤ)) → IsPixel r.kind r.depth p → InRange r.kind (get_or (unwrap_or p []) d (pos 0))
    of_pixel None e = zero_in_range r.kind
    of_pixel (Some vs) e = in_list vs e.1 (cases_lt d (length vs))

    by : (k < length r.pixels) ⊎ (length r.pixels ≤ k) → InRange r.kind (value_in r d k)
    by (inl low) = of_pixel (get_or r.pixels k None) (is.each k low)
    by (inr past) = subst (λ (p : Option (List ℤ)). InRange r.kind (get_or (unwrap_or p []) d (pos 0))) (sym (get_or_past r.pixels k None past)) (zero_in_range r.kind)

pub block_fits : (r : Pixels) → IsRaster r → (row col side d : ℕ) → All (InRange r.kind) (block_values r row col side d)
block_fits r is row col side d =
    subst (All (InRange r.kind)) (sym (block_numbered r row col side d)) (All-map (InRange r.kind) (value_in r d) _ (λ i e h. value_fits r is d _))

-- what was gathered in front of a buffer
pub gathered : (P : ℤ → Type 0) (out values rest : List ℤ) (n m : ℕ) → n ≡ m → length values ≡ m → out ≡ values ++ rest → All P values → All P (take n out)
gathered P out values rest n m e long is all = subst (All P) (sym (ap (take n) is ∙ take_at values rest n (long ∙ sym e))) all

pub block_gathered : (h : Header) (r : Pixels) → IsBlocked h r → (kind : PixelType) → kind ≡ h.kind → (out rest : List ℤ) (row col side d n : ℕ) → n ≡ block_count r row col side → out ≡ block_values r row col side d ++ rest
    → All (InRange kind) (take n out)
block_gathered h r is kind same out rest row col side d n e joined =
    subst (λ (t : PixelType). All (InRange t) (take n out)) (sym (same ∙ is.kind))
    (gathered (InRange r.kind) out (block_values r row col side d) rest n (block_count r row col side) e (has_count r row col side d) joined (block_fits r is.sound row col side d))

-- ---- how long

length_raw : (kind : PixelType) (col step : ℕ) (values : List ℤ) → length (written_form_bytes kind col step values micro.raw) ≡ 1 + length values * bytes_of kind
unfolding written_form_bytes
length_raw kind col step values = let long = length-values_bytes kind values in omega (arith, long)

-- the raw form is always there
pub chosen_few : (kind : PixelType) (col step : ℕ) (values : List ℤ) → length (block_bytes kind col step values) ≤ 1 + length values * bytes_of kind
unfolding block_bytes chosen_form
chosen_few kind col step values = few (first_least size (forms step values)) (is_first_least size (forms step values))
  where
    size : micro.WrittenForm → ℕ
    size form = length (written_form_bytes kind col step values form)

    few : (taken : Option micro.WrittenForm) → IsTaken (λ form. length (written_form_bytes kind col step values form)) (forms step values) taken → length (written_form_bytes kind col step values (unwrap_or taken micro.raw)) ≤ 1 + length values * bytes_of kind
    few None h = let long = length_raw kind col step values in omega (arith, long)
    few (Some form) h = let low = h.1.least 2 micro.raw refl in let long = length_raw kind col step values in omega (arith, low, long)

pub take_short : {X : Type 0} (n : ℕ) (xs : List X) → length (take n xs) ≤ length xs
take_short zero xs = omega arith
take_short (suc n) [] = omega arith
take_short (suc n) (x ∷ xs) = let h = take_short n xs in omega (arith, h)

pub coded_few : (kind : PixelType) (col step n : ℕ) (values : List ℤ) → n ≡ length (block_bytes kind col step values) → length values ≤ 256 → n ≤ 1025
coded_few kind col step n values e few =
    let most = chosen_few kind col step values in
    let a : length values * bytes_of kind ≤ 256 * bytes_of kind = mul-le-mul_right (bytes_of kind) few in
    let b : 256 * bytes_of kind ≤ 256 * 4 = mul-le-mul_left 256 (few_bytes kind) in
    omega (arith, e, most, a, b)

-- ---- one behind the other

pub part_written : (joined out out0 new part all : List ℕ) (at m : ℕ) → at ≡ length joined → out ≡ joined ++ drop at out0 → m ≡ length part
    → new ≡ part ++ drop (length part) (take (length out - at) (drop at out)) → all ≡ joined ++ part → put_mid at (length out - at) out new ≡ all ++ drop (at + m) out0
part_written joined out out0 new part all at m is e long wrote whole =
    let behind : drop at out ≡ drop at out0 = ap (drop at) e ∙ drop_at joined (drop at out0) at (sym is) in
    let rest : take (length out - at) (drop at out) ≡ drop at out0 = take_rest out at ∙ behind in
    let new_is : new ≡ part ++ drop (at + m) out0 = wrote ∙ (λ t. part ++ drop (length part) (rest t)) ∙ ap (λ (u : List ℕ). part ++ u) (drop-drop (length part) at out0 ∙ ap (λ n. drop (at + n) out0) (sym long)) in
    let sizes : length out ≡ at + length (drop at out0) = ap length e ∙ length-append joined (drop at out0) ∙ ap (λ n. n + length (drop at out0)) (sym is) in
    ap (λ (xs : List ℕ). put_mid at (length xs - at) xs new) e
    ∙ end_written joined (drop at out0) new at (length (joined ++ drop at out0) - at) (sym is) (let l = length-append joined (drop at out0) in omega (arith, l, is))
    ∙ ap (λ (u : List ℕ). joined ++ u) new_is ∙ sym (append_assoc joined part (drop (at + m) out0)) ∙ ap (λ (u : List ℕ). u ++ drop (at + m) out0) (sym whole)
