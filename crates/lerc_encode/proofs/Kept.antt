-- The blocks that are written stand for a raster that is near.
use Rattle.std.proofs.Common.{◌≡◌, ℕ, ◌+◌, ◌-◌, ◌*◌, ◌/◌, ◌%◌, ◌<◌, ◌≤◌, min, suc, Bool, true, false, List, [], ◌∷◌, ◌++◌, length, get_or, map, sym, ap, ◌∙◌, subst, arith, length-append, Option, Some, None}
use Rattle.std.specs.Prelude.{ℤ, pos, ◌≤ℤ◌, is_some, unwrap_or, cond}
use Rattle.std.specs.List.{flat_map, filter, range_with_len}
use Rattle.std.proofs.lemmas.Int.{ints}
use Rattle.std.proofs.lemmas.List.{length-map}
use Rattle.std.proofs.lemmas.List.FromFn.{length-range_with_len}
use Rattle.std.proofs.lemmas.Nat.{div_below, mod_below, div-mul-add, mod-mul-add, div-add-mod', mul-add-lt, le-div}
use Rattle.std.proofs.lemmas.Simd.{map-map}
use Rattle.std.proofs.Math.Nat.{mul-le-mul_left}
use Rattle.raster_values.specs.Raster.{Pixels, IsRaster, IsPixel}
use Rattle.raster_cells.specs.PixelType.{InRange}
use Rattle.raster_cells.specs.declared.kind.PixelType.{PixelType}
use Rattle.raster_values.specs.Flat.{marks_of, value_in, revalued}
use Rattle.raster_values.proofs.NumberedBlocks.{block_numbered}
use Rattle.raster_values.proofs.Revalued.{new_shape, new_marks, new_value, new_raster}
use Rattle.lerc_header.specs.declared.header.Header.{Header}
use Rattle.micro_block.specs.ChosenBlock as micro
use Rattle.micro_block.specs.Frame.{AreWritable}
use Rattle.micro_block.specs.Block.{IsBlock}
use Rattle.micro_block.specs.Near.{IsNear}
use Rattle.micro_block.proofs.Written.{written_stands, kept_near, kept_between, least_in_range}
use Rattle.lerc_grammar.specs.Image.{Ends, top_of}
use Rattle.lerc_grammar.specs.Blocks.{blocks_across, block_depth, block_row, block_col, pixels_in_block, block_frame, count_in_block, coded_values}
use Rattle.lerc_encode.specs.inside.Suits.{Suits, IsBeside}
use Rattle.lerc_encode.proofs.Members.{Has, has_filter, has_flat_map, has_map, has_range, in_flat_map, in_map, in_filter, in_range, at_index, index_of, map_same}
use Rattle.lerc_encode.proofs.Extremes.{all_of, is_valid}

-- ---- blocks by the numbers of their pixels

-- the number of the coded block with the pixel in this row and column at a depth
abbrev pub number_at : Header → ℕ → ℕ → ℕ → ℕ
number_at h row col d = (row / h.side * blocks_across h + col / h.side) * h.depth + d

-- the numbers of the valid pixels of a coded block
abbrev pub valid_places_in : Header → List Bool → ℕ → List ℕ
valid_places_in h marks k = filter (λ place. get_or marks place false) (pixels_in_block h k)

pub in_block : (h : Header) (row col d : ℕ) → 0 < h.side → row < h.rows → col < h.cols → d < h.depth → Has (row * h.cols + col) (pixels_in_block h (number_at h row col d))
in_block h row col d side r c below =
    let across : col / h.side < blocks_across h = omega (arith, le-div (col / h.side + 1) (h.cols + h.side - 1) h.side side (let m = div-add-mod' col h.side in omega (arith, c, side, m, mul-one (col / h.side) h.side))) in
    let k = number_at h row col d in
    let block : k / h.depth ≡ row / h.side * blocks_across h + col / h.side = div-mul-add (row / h.side * blocks_across h + col / h.side) h.depth d below in
    let down : k / h.depth / blocks_across h ≡ row / h.side = ap (λ n. n / blocks_across h) block ∙ div-mul-add (row / h.side) (blocks_across h) (col / h.side) across in
    let right : k / h.depth % blocks_across h ≡ col / h.side = ap (λ n. n % blocks_across h) block ∙ mod-mul-add (row / h.side) (blocks_across h) (col / h.side) across in
    let first_row : block_row h k ≡ row / h.side * h.side = ap (λ n. n * h.side) down in
    let first_col : block_col h k ≡ col / h.side * h.side = ap (λ n. n * h.side) right in
    let mr = div-add-mod' row h.side in
    let mc = div-add-mod' col h.side in
    let br = mod_below row h.side side in
    let bc = mod_below col h.side side in
    has_flat_map (λ (i : ℕ). map (λ (j : ℕ). i * h.cols + j) (range_with_len (block_col h k) (min h.side (h.cols - block_col h k)))) row (row * h.cols + col) (range_with_len (block_row h k) (min h.side (h.rows - block_row h k)))
    (has_range (block_row h k) (min h.side (h.rows - block_row h k)) row (omega (arith, first_row, mr)) (omega (arith, first_row, mr, br, r)))
    (has_map (λ (j : ℕ). row * h.cols + j) col (range_with_len (block_col h k) (min h.side (h.cols - block_col h k)))
    (has_range (block_col h k) (min h.side (h.cols - block_col h k)) col (omega (arith, first_col, mc)) (omega (arith, first_col, mc, bc, c))))
  where
    mul-one : (a b : ℕ) → (a + 1) * b ≡ a * b + b
    mul-one a b = omega arith

-- the values of a coded block of a raster of the header's shape
pub coded_numbered : (h : Header) (s : Pixels) → s.rows ≡ h.rows → s.cols ≡ h.cols → (k : ℕ) → coded_values h s k ≡ map (value_in s (block_depth h k)) (valid_places_in h (marks_of s) k)
coded_numbered h s rows cols k =
    let row = block_row h k in
    let col = block_col h k in
    block_numbered s row col h.side (block_depth h k)
    ∙ (λ t. map (value_in s (block_depth h k)) (filter (λ p. get_or (marks_of s) p false)
    (flat_map (λ i. map (λ j. i * cols t + j) (range_with_len col (min h.side (cols t - col)))) (range_with_len row (min h.side (rows t - row))))))

-- ---- the block of a place

pub record IsPlaceOf (h : Header) (k p : ℕ) : Type 0 where
  pub within : p < h.rows * h.cols
  pub number : number_at h (p / h.cols) (p % h.cols) (block_depth h k) ≡ k

pub place_of : (h : Header) (k p : ℕ) → 0 < h.side → Has p (pixels_in_block h k) → IsPlaceOf h k p
place_of h k p side m =
    let rows = in_flat_map (λ (row : ℕ). map (λ (col : ℕ). row * h.cols + col) (range_with_len (block_col h k) (min h.side (h.cols - block_col h k)))) p (range_with_len (block_row h k) (min h.side (h.rows - block_row h k))) m in
    let row = rows.0 in
    let cols = in_map (λ (col : ℕ). row * h.cols + col) p (range_with_len (block_col h k) (min h.side (h.cols - block_col h k))) rows.1.1 in
    let col = cols.0 in
    let row_in = in_range (block_row h k) (min h.side (h.rows - block_row h k)) row rows.1.0 in
    let col_in = in_range (block_col h k) (min h.side (h.cols - block_col h k)) col cols.1.0 in
    let row_low = row_in.0 in let row_high = row_in.1 in
    let col_low = col_in.0 in let col_high = col_in.1 in
    let is : p ≡ row * h.cols + col = cols.1.1 in
    let row_below : row < h.rows = omega (arith, row_low, row_high) in
    let col_below : col < h.cols = omega (arith, col_low, col_high) in
    let R = k / h.depth / blocks_across h in
    let C = k / h.depth % blocks_across h in
    let row_is : p / h.cols ≡ row = ap (λ n. n / h.cols) is ∙ div-mul-add row h.cols col col_below in
    let col_is : p % h.cols ≡ col = ap (λ n. n % h.cols) is ∙ mod-mul-add row h.cols col col_below in
    let row_block : row / h.side ≡ R = quotient row R h.side row_low (omega (arith, row_high)) in
    let col_block : col / h.side ≡ C = quotient col C h.side col_low (omega (arith, col_high)) in
    let whole : R * blocks_across h + C ≡ k / h.depth = div-add-mod' (k / h.depth) (blocks_across h) in
    let all : k / h.depth * h.depth + k % h.depth ≡ k = div-add-mod' k h.depth in
    record {
      within = subst (λ n. n < h.rows * h.cols) (sym is) (let b = mul-add-lt row h.cols col h.rows row_below col_below in subst (λ n. row * h.cols + col < n) (let t : h.cols * h.rows ≡ h.rows * h.cols = omega arith in t) b);
      number =
          (λ i. (ap (λ n. n / h.side) row_is i * blocks_across h + ap (λ n. n / h.side) col_is i) * h.depth + block_depth h k)
          ∙ (λ i. (row_block i * blocks_across h + col_block i) * h.depth + block_depth h k)
          ∙ ap (λ n. n * h.depth + block_depth h k) whole ∙ all;
    }
  where
    quotient : (n q side : ℕ) → q * side ≤ n → n < q * side + side → n / side ≡ q
    quotient n q side low high =
        let rest : n ≡ q * side + (n - q * side) = omega (arith, low) in
        ap (λ m. m / side) rest ∙ div-mul-add q side (n - q * side) (omega (arith, low, high))

-- ---- a block has at most 256 values

cond_few : {X : Type 0} (b : Bool) (x : X) (ys : List X) (n : ℕ) → length ys ≤ n → length (cond b (x ∷ ys) ys) ≤ suc n
cond_few true x ys n h = omega (arith, h)
cond_few false x ys n h = omega (arith, h)

filter_few : {X : Type 0} (p : X → Bool) (xs : List X) → length (filter p xs) ≤ length xs
filter_few p [] = omega arith
filter_few p (x ∷ xs) = cond_few (p x) x (filter p xs) (length xs) (filter_few p xs)

pub length_flat : {X Y : Type 0} (f : X → List Y) (w : ℕ) (xs : List X) → ((x : X) → length (f x) ≡ w) → length (flat_map f xs) ≡ length xs * w
length_flat f w [] h = omega arith
length_flat f w (x ∷ xs) h =
    let one = h x in
    let more = length_flat f w xs h in
    let joined : length (f x ++ flat_map f xs) ≡ length (f x) + length (flat_map f xs) = length-append (f x) (flat_map f xs) in
    let t : suc (length xs) * w ≡ w + length xs * w = omega arith in
    omega (arith, one, more, joined, t)

few_places : (h : Header) (k : ℕ) → h.side ≤ 16 → length (pixels_in_block h k) ≤ 256
few_places h k side =
    let wide = min h.side (h.cols - block_col h k) in
    let high = min h.side (h.rows - block_row h k) in
    let size : length (pixels_in_block h k) ≡ length (range_with_len (block_row h k) high) * wide = length_flat (λ (row : ℕ). map (λ (col : ℕ). row * h.cols + col) (range_with_len (block_col h k) wide)) wide (range_with_len (block_row h k) high)
    (λ row. length-map (range_with_len (block_col h k) wide) (λ (col : ℕ). row * h.cols + col) ∙ length-range_with_len (block_col h k) wide) in
    let rows : length (range_with_len (block_row h k) high) ≡ high = length-range_with_len (block_row h k) high in
    let w : wide ≤ 16 = omega (arith, side) in
    let t : high ≤ 16 = omega (arith, side) in
    let product : high * wide ≤ 256 = bound high wide t w in
    subst (λ n. n ≤ 256) (sym (size ∙ ap (λ n. n * wide) rows)) product
  where
    bound : (a b : ℕ) → a ≤ 16 → b ≤ 16 → a * b ≤ 256
    bound a b h k = let one : a * b ≤ a * 16 = mul-le-mul_left a k in omega (arith, one, h)

-- ---- the blocks

-- a place among the valid ones of block k
pub record IsValidOf (h : Header) (r : Pixels) (k p : ℕ) : Type 0 where
  pub there : p < length r.pixels
  pub valid : get_or (marks_of r) p false ≡ true
  pub number : number_at h (p / h.cols) (p % h.cols) (block_depth h k) ≡ k

valid_of : (h : Header) (front : Option Ends) (r : Pixels) → Suits h front r → (k p : ℕ) → Has p (valid_places_in h (marks_of r) k) → IsValidOf h r k p
valid_of h front r s k p m =
    let f = in_filter (λ (q : ℕ). get_or (marks_of r) q false) p (pixels_in_block h k) m in
    let at = place_of h k p s.side f.1 in
    record { there = subst (λ n. p < n) (sym (s.sound.places ∙ (λ i. sym s.rows_is i * sym s.cols_is i))) at.within; valid = f.0; number = at.number }

-- a value of the raster is in the type's range
value_fits : (r : Pixels) → IsRaster r → (p d : ℕ) → p < length r.pixels → get_or (marks_of r) p false ≡ true → d < r.depth → InRange r.kind (value_in r d p)
value_fits r is p d h m low = fits (get_or r.pixels p None) (is_valid r p m h) (is.each p h)
  where
    fits : (q : Option (List ℤ)) → is_some q ≡ true → IsPixel r.kind r.depth q → InRange r.kind (get_or (unwrap_or q []) d (pos 0))
    fits None e pixel = absurd (cc)
    fits (Some values) e pixel = let long = pixel.0 in pixel.1 d (pos 0) (omega (arith, long, low))

depth_below : (h : Header) (front : Option Ends) (r : Pixels) → Suits h front r → (k : ℕ) → block_depth h k < r.depth
depth_below h front r s k = subst (λ n. k % h.depth < n) s.depth_is (mod_below k h.depth (let d = s.depth_is in let some = s.sound.shape.depth_above in omega (arith, d, some)))

-- the values of a coded block of the raster
values_are : (h : Header) (front : Option Ends) (r : Pixels) → Suits h front r → (k : ℕ) → coded_values h r k ≡ map (value_in r (block_depth h k)) (valid_places_in h (marks_of r) k)
values_are h front r s k = coded_numbered h r (sym s.rows_is) (sym s.cols_is) k

-- each value of a block is one of a valid pixel
member_of : (h : Header) (front : Option Ends) (r : Pixels) → Suits h front r → (k : ℕ) (v : ℤ) → Has v (coded_values h r k) → (p : ℕ) × (IsValidOf h r k p × (v ≡ value_in r (block_depth h k) p))
member_of h front r s k v m =
    let at = in_map (value_in r (block_depth h k)) v (valid_places_in h (marks_of r) k) (subst (λ (vs : List ℤ). Has v vs) (values_are h front r s k) m) in
    (at.0, (valid_of h front r s k at.0 at.1.0, at.1.1))

pub writable : (h : Header) (front : Option Ends) (r : Pixels) → Suits h front r → (k : ℕ) → AreWritable (block_frame h (marks_of r) (top_of h front) k) (coded_values h r k)
unfolding block_frame count_in_block
writable h front r s k =
    let long : length (coded_values h r k) ≡ length (valid_places_in h (marks_of r) k) = ap length (values_are h front r s k) ∙ length-map (valid_places_in h (marks_of r) k) (value_in r (block_depth h k)) in
    let few = filter_few (λ (q : ℕ). get_or (marks_of r) q false) (pixels_in_block h k) in
    let few_too = few_places h k s.side_below in
    let d_low = depth_below h front r s k in
    record {
      counted = sym long;
      few = omega (arith, long, few, few_too);
      step = s.step;
      in_range = all_of (InRange h.kind) (coded_values h r k)
          (λ v m. let at = member_of h front r s k v m in subst (InRange h.kind) (sym at.1.1) (subst (λ (t : PixelType). InRange t (value_in r (block_depth h k) at.0)) (sym s.kind_is) (value_fits r s.sound at.0 (block_depth h k) at.1.0.there at.1.0.valid d_low)));
      below = λ i low.
          let at = member_of h front r s k (get_or (coded_values h r k) i (pos 0)) (at_index (pos 0) (coded_values h r k) i low) in
          subst (λ (v : ℤ). v ≤ℤ top_of h front (block_depth h k)) (sym at.1.1) (s.maxima at.0 (block_depth h k) at.1.0.there at.1.0.valid d_low);
    }

-- what is kept of a value of block k
abbrev pub kept_in : Header → Option Ends → Pixels → ℕ → ℤ → ℤ
kept_in h front r k v = micro.kept h.kind (block_col h k) h.step (top_of h front (block_depth h k)) (coded_values h r k) v

-- the raster for which the written blocks stand: by place
abbrev pub kept_raster : Header → Option Ends → Pixels → Pixels
kept_raster h front r = revalued r (λ p d v. kept_in h front r (number_at h (p / h.cols) (p % h.cols) d) v)

pub block_kept : (h : Header) (front : Option Ends) (r : Pixels) → Suits h front r → (k : ℕ) → coded_values h (kept_raster h front r) k ≡ map (kept_in h front r k) (coded_values h r k)
block_kept h front r s k =
    let g = λ (p d : ℕ) (v : ℤ). kept_in h front r (number_at h (p / h.cols) (p % h.cols) d) v in
    let d = block_depth h k in
    let places = valid_places_in h (marks_of r) k in
    let shape = new_shape r g in
    coded_numbered h (kept_raster h front r) (sym shape.rows ∙ sym s.rows_is) (sym shape.cols ∙ sym s.cols_is) k
    ∙ ap (λ m. map (value_in (kept_raster h front r) d) (valid_places_in h m k)) (new_marks r g)
    ∙ map_same (value_in (kept_raster h front r) d) (λ p. kept_in h front r k (value_in r d p)) places
    (λ p m. let at = valid_of h front r s k p m in new_value r g p d at.there at.valid (depth_below h front r s k) ∙ ap (λ n. kept_in h front r n (value_in r d p)) at.number)
    ∙ sym (map-map (kept_in h front r k) (value_in r d) places)
    ∙ ap (map (kept_in h front r k)) (sym (values_are h front r s k))

-- each written block stands for the values of that raster
pub blocks_stand : (h : Header) (front : Option Ends) (r : Pixels) → Suits h front r → (k : ℕ)
    → IsBlock (block_frame h (marks_of r) (top_of h front) k) (micro.block_bytes h.kind (block_col h k) h.step (coded_values h r k)) (coded_values h (kept_raster h front r) k)
unfolding block_frame
blocks_stand h front r s k =
    subst (λ (vs : List ℤ). IsBlock (block_frame h (marks_of r) (top_of h front) k) (micro.block_bytes h.kind (block_col h k) h.step (coded_values h r k)) vs) (sym (block_kept h front r s k))
    (written_stands (block_frame h (marks_of r) (top_of h front) k) (coded_values h r k) (writable h front r s k))

-- ---- that raster is near

-- the block of a valid pixel has its value
value_in_block : (h : Header) (front : Option Ends) (r : Pixels) → Suits h front r → (p d : ℕ) → p < length r.pixels → get_or (marks_of r) p false ≡ true → d < r.depth
    → Has (value_in r d p) (coded_values h r (number_at h (p / h.cols) (p % h.cols) d))
value_in_block h front r s p d there valid low =
    let size : length r.pixels ≡ h.rows * h.cols = s.sound.places ∙ (λ i. sym s.rows_is i * sym s.cols_is i) in
    let some : 0 < h.cols = subst (λ n. 0 < n) (sym s.cols_is) s.sound.shape.cols_above in
    let row : p / h.cols < h.rows = div_below p h.cols h.rows some (omega (arith, size, there)) in
    let col : p % h.cols < h.cols = mod_below p h.cols some in
    let at : p / h.cols * h.cols + p % h.cols ≡ p = div-add-mod' p h.cols in
    let k = number_at h (p / h.cols) (p % h.cols) d in
    let low_too : d < h.depth = subst (λ n. d < n) (sym s.depth_is) low in
    let depth : block_depth h k ≡ d = mod-mul-add (p / h.cols / h.side * blocks_across h + p % h.cols / h.side) h.depth d low_too in
    let place : Has p (pixels_in_block h k) = subst (λ n. Has n (pixels_in_block h k)) at (in_block h (p / h.cols) (p % h.cols) d s.side row col low_too) in
    let among : Has p (valid_places_in h (marks_of r) k) = has_filter (λ (q : ℕ). get_or (marks_of r) q false) p (pixels_in_block h k) valid place in
    subst (λ (vs : List ℤ). Has (value_in r d p) vs) (sym (values_are h front r s k))
    (subst (λ e. Has (value_in r e p) (map (value_in r (block_depth h k)) (valid_places_in h (marks_of r) k))) depth (has_map (value_in r (block_depth h k)) p (valid_places_in h (marks_of r) k) among))

-- what is kept of a value of a valid pixel
pub record IsKept (h : Header) (front : Option Ends) (r : Pixels) (p d : ℕ) : Type 0 where
  pub near : IsNear h.step (value_in r d p) (kept_in h front r (number_at h (p / h.cols) (p % h.cols) d) (value_in r d p))
  pub fits : InRange r.kind (kept_in h front r (number_at h (p / h.cols) (p % h.cols) d) (value_in r d p))
  pub below : kept_in h front r (number_at h (p / h.cols) (p % h.cols) d) (value_in r d p) ≤ℤ top_of h front d

depth_at : (h : Header) (front : Option Ends) (r : Pixels) → Suits h front r → (p d : ℕ) → d < r.depth → block_depth h (number_at h (p / h.cols) (p % h.cols) d) ≡ d
depth_at h front r s p d low = mod-mul-add (p / h.cols / h.side * blocks_across h + p % h.cols / h.side) h.depth d (subst (λ n. d < n) (sym s.depth_is) low)

pub is_kept : (h : Header) (front : Option Ends) (r : Pixels) → Suits h front r → (p d : ℕ) → p < length r.pixels → get_or (marks_of r) p false ≡ true → d < r.depth → IsKept h front r p d
unfolding block_frame
is_kept h front r s p d there valid low =
    let k = number_at h (p / h.cols) (p % h.cols) d in
    let v = value_in r d p in
    let values = coded_values h r k in
    let m = index_of (pos 0) v values (value_in_block h front r s p d there valid low) in
    let w = writable h front r s k in
    let e : get_or values m.0 (pos 0) ≡ v = m.1.1 in
    let b = kept_between (block_frame h (marks_of r) (top_of h front) k) values w m.0 m.1.0 in
    let least : micro.least_value values ≤ℤ kept_in h front r k v = subst (λ (u : ℤ). micro.least_value values ≤ℤ kept_in h front r k u) e b.0 in
    let top : kept_in h front r k v ≤ℤ top_of h front (block_depth h k) = subst (λ (u : ℤ). kept_in h front r k u ≤ℤ top_of h front (block_depth h k)) e b.1 in
    let top_is : kept_in h front r k v ≤ℤ top_of h front d = subst (λ e. kept_in h front r k v ≤ℤ top_of h front e) (depth_at h front r s p d low) top in
    let least_fits : InRange r.kind (micro.least_value values) = subst (λ (t : PixelType). InRange t (micro.least_value values)) s.kind_is (least_in_range h.kind values w.in_range) in
    let top_fits = s.maxima_in_range d low in
    record {
      near = subst (λ (u : ℤ). IsNear h.step u (kept_in h front r k u)) e (kept_near (block_frame h (marks_of r) (top_of h front) k) values w m.0 m.1.0);
      fits = (omega (arith, ints, least, least_fits.0), omega (arith, ints, top_is, top_fits.1));
      below = top_is;
    }

pub kept_sound : (h : Header) (front : Option Ends) (r : Pixels) → Suits h front r → IsRaster (kept_raster h front r)
kept_sound h front r s = new_raster r (λ p d v. kept_in h front r (number_at h (p / h.cols) (p % h.cols) d) v) s.sound (λ p d there valid low. (is_kept h front r s p d there valid low).fits)

pub kept_raster_near : (h : Header) (front : Option Ends) (r : Pixels) → Suits h front r → IsBeside r (kept_raster h front r) h.step
kept_raster_near h front r s =
    let g : ℕ → ℕ → ℤ → ℤ = λ p d v. kept_in h front r (number_at h (p / h.cols) (p % h.cols) d) v in
    record {
      shape = new_shape r g;
      marks = sym (new_marks r g);
      each = λ p d there valid low. subst (λ (w : ℤ). IsNear h.step (value_in r d p) w) (sym (new_value r g p d there valid low)) (is_kept h front r s p d there valid low).near;
    }
