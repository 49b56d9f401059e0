-- The coded blocks of side 8 by the coded blocks of side 16 that they stand in.
use Rattle.std.proofs.Common.{◌≡◌, ℕ, zero, suc, ◌+◌, ◌-◌, ◌*◌, ◌/◌, ◌%◌, ◌<◌, ◌≤◌, List, [], ◌∷◌, length, refl, sym, ap, subst, ◌∙◌, arith, inl, inr, length-append}
use Rattle.std.specs.Prelude.{Bool, true, false, ◌&&◌, nat_lt, if◌then◌else◌}
use Rattle.std.specs.List.{flat_map, range_with_len, sum_by}
use Rattle.std.proofs.Math.Nat.{mul-le-mul_right}
use Rattle.std.proofs.lemmas.Bool.Decides.{leb_tells}
use Rattle.std.proofs.lemmas.Nat.{div-add-mod', div-mul-add, mod-mul-add, div_below, le-div, mod_below}
use Rattle.std.proofs.lemmas.List.{append-nil}
use Rattle.std.proofs.lemmas.List.Concat.{length-flat_map}
use Rattle.std.proofs.lemmas.List.Sorted.{length_permutation}
use Rattle.std.proofs.lemmas.List.Sums.{sum_by-append, sum_by-cons}
use Rattle.raster_values.specs.Raster.{Pixels}
use Rattle.lerc_header.specs.declared.header.Header.{Header}
use Rattle.lerc_grammar.specs.Blocks.{block_col, block_depth, block_row, blocks_across, blocks_down, coded_blocks}
use Rattle.lerc_encode.specs.Images.{blocks_bytes, coded_bytes}
use Rattle.lerc_encode.specs.declared.blocks.chosen_blocks.BlockAt.{BlockAt}
use Rattle.lerc_encode.specs.inside.Blocked.{IsBlocked, IsBlockAt, IsWithin, bytes_at}
use Rattle.lerc_encode.specs.inside.Sides.{four_sizes, number_at, size_at}
use Rattle.lerc_encode.proofs.Runs.{two_runs}
use Rattle.lerc_encode.proofs.BlocksAt.{bytes_there}
use Rattle.lerc_encode.proofs.Squares.{pair, square, squares_numbered}

-- ---- the number of a spot

row_less : (q r n m : ℕ) → q < m → r < n → q * n + r < m * n
row_less q r n m low_q low_r =
    let up : suc q * n ≤ m * n = mul-le-mul_right n (let t : suc q ≤ m = omega (arith, low_q) in t) in
    let e : suc q * n ≡ q * n + n = omega arith in
    omega (arith, up, e, low_r)

record AreParts (across depth k a b d : ℕ) : Type 0 where
  down : k / depth / across ≡ a
  along : k / depth % across ≡ b
  deep : k % depth ≡ d

parts : (across depth a b d : ℕ) → b < across → d < depth → AreParts across depth ((a * across + b) * depth + d) a b d
parts across depth a b d low_b low_d =
    let block : ((a * across + b) * depth + d) / depth ≡ a * across + b = div-mul-add (a * across + b) depth d low_d in
    record {
      down = ap (λ (k : ℕ). k / across) block ∙ div-mul-add a across b low_b;
      along = ap (λ (k : ℕ). k % across) block ∙ mod-mul-add a across b low_b;
      deep = mod-mul-add (a * across + b) depth d low_d;
    }

below_blocks : (x n side : ℕ) → 0 < side → x < n → x / side < (n + side - 1) / side
below_blocks x n side some low =
    let whole = div-add-mod' x side in
    let up : (x / side + 1) * side ≡ x / side * side + side = omega arith in
    let e = le-div (x / side + 1) (n + side - 1) side some (omega (arith, whole, up, low, some)) in
    omega (arith, e)

pub spot_numbered : (h : Header) (spot : BlockAt) → 0 < h.side → IsWithin h spot → spot.row % h.side ≡ 0 → spot.col % h.side ≡ 0 → IsBlockAt h (number_at h spot) spot × (number_at h spot < coded_blocks h)
spot_numbered h spot some within row col =
    let a = spot.row / h.side in
    let b = spot.col / h.side in
    let low_a : a < blocks_down h = below_blocks spot.row h.rows h.side some within.row in
    let low_b : b < blocks_across h = below_blocks spot.col h.cols h.side some within.col in
    let is = parts (blocks_across h) h.depth a b spot.d low_b within.depth in
    let top : spot.row ≡ a * h.side = let w = div-add-mod' spot.row h.side in omega (arith, w, row) in
    let left : spot.col ≡ b * h.side = let w = div-add-mod' spot.col h.side in omega (arith, w, col) in (
      record {
        row = top ∙ ap (λ (k : ℕ). k * h.side) (sym is.down);
        col = left ∙ ap (λ (k : ℕ). k * h.side) (sym is.along);
        depth = sym is.deep;
      },
      row_less (a * blocks_across h + b) spot.d h.depth (blocks_down h * blocks_across h) (row_less a b (blocks_across h) (blocks_down h) low_a low_b) within.depth,
    )

-- a spot has one number
pub spot_number : (h : Header) (k : ℕ) (spot : BlockAt) → 0 < h.side → IsBlockAt h k spot → k ≡ number_at h spot
spot_number h k spot some at =
    let block : k / h.depth / blocks_across h * blocks_across h + k / h.depth % blocks_across h ≡ k / h.depth = div-add-mod' (k / h.depth) (blocks_across h) in
    let all : k / h.depth * h.depth + k % h.depth ≡ k = div-add-mod' k h.depth in
    sym all ∙ ap (λ (n : ℕ). n * h.depth + k % h.depth) (sym block)
    ∙ (λ i. (sym (back (k / h.depth / blocks_across h) spot.row at.row) i * blocks_across h + sym (back (k / h.depth % blocks_across h) spot.col at.col) i) * h.depth + sym at.depth i)
  where
    back : (n x : ℕ) → x ≡ n * h.side → x / h.side ≡ n
    back n x e = ap (λ (y : ℕ). y / h.side) (e ∙ (let z : n * h.side ≡ n * h.side + 0 = omega arith in z)) ∙ div-mul-add n h.side 0 some

-- ---- sizes

abbrev pub spot_of : Header → ℕ → BlockAt
spot_of h k = record { row = block_row h k; col = block_col h k; d = block_depth h k }

-- of the first n blocks of side 16
abbrev pub quarters_so_far : Header → Pixels → ℕ → ℕ
quarters_so_far h r n = sum_by (λ k. four_sizes h r (spot_of (record h { side = 16 }) k)) (range_with_len 0 n)

run_sum : (f : ℕ → ℕ) (n m : ℕ) → sum_by f (range_with_len 0 (n + m)) ≡ sum_by f (range_with_len 0 n) + sum_by f (range_with_len (0 + n) m)
run_sum f n m = ap (sum_by f) (two_runs 0 n m) ∙ sum_by-append f (range_with_len 0 n) (range_with_len (0 + n) m)

pub quarters_more : (h : Header) (r : Pixels) (n : ℕ) → quarters_so_far h r (n + 1) ≡ quarters_so_far h r n + four_sizes h r (spot_of (record h { side = 16 }) n)
quarters_more h r n = one_more (λ k. four_sizes h r (spot_of (record h { side = 16 }) k))
  where
    one_more : (f : ℕ → ℕ) → sum_by f (range_with_len 0 (n + 1)) ≡ sum_by f (range_with_len 0 n) + f n
    one_more f =
        run_sum f n 1 ∙ ap (λ (k : ℕ). sum_by f (range_with_len 0 n) + sum_by f (k ∷ [])) (let e : 0 + n ≡ n = omega arith in e)
        ∙ ap (λ (k : ℕ). sum_by f (range_with_len 0 n) + k) (let e : 0 + f n ≡ f n = omega arith in e)

-- ---- one square

same_test : (p n q m : ℕ) → (p < n → q < m) → (q < m → p < n) → nat_lt p n ≡ nat_lt q m
same_test p n q m to back = elim (leb_tells (suc p) n) [
  | inl fits ↦ elim (leb_tells (suc q) m) [
    | inl also ↦ fits.0 ∙ sym also.0
    | inr past ↦ absurd (let a = to (let t = fits.1 in omega (arith, t)) in let b = past.1 in omega (arith, a, b))
  ]
  | inr past ↦ elim (leb_tells (suc q) m) [
    | inl also ↦ absurd (let a = back (let t = also.1 in omega (arith, t)) in let b = past.1 in omega (arith, a, b))
    | inr none ↦ past.0 ∙ sym none.0
  ]
]

-- the size at a place of the grid of blocks of side 8
abbrev cell : Header → Pixels → ℕ → ℕ → ℕ → ℕ
cell h r a b d = if nat_lt a (blocks_down h) && nat_lt b (blocks_across h) then length (coded_bytes h r ((a * blocks_across h + b) * h.depth + d)) else 0

eights : (n side : ℕ) → side ≡ 8 → (n + side - 1) / side ≡ (n + 8 - 1) / 8
eights n side e = ap (λ (s : ℕ). (n + s - 1) / s) e

both_true : (t u : Bool) (x y : ℕ) → (t ≡ true → u ≡ true → x ≡ y) → (if t && u then x else 0) ≡ (if t && u then y else 0)
both_true true true x y h = h refl refl
both_true true false x y h = refl
both_true false u x y h = refl

is_below : (p n : ℕ) → nat_lt p n ≡ true → p < n
is_below p n e = elim (leb_tells (suc p) n) [
  | inl fits ↦ (let t = fits.1 in omega (arith, t))
  | inr past ↦ absurd (let f : true ≡ false = sym e ∙ past.0 in cc)
]

cell_is : (h : Header) (r : Pixels) → h.side ≡ 8 → (a b d row col : ℕ) → d < h.depth → row ≡ a * 8 → col ≡ b * 8 → cell h r a b d ≡ size_at h r (record { row = row; col = col; d = d })
cell_is h r side a b d row col low top left =
    both_true (nat_lt a (blocks_down h)) (nat_lt b (blocks_across h)) (length (coded_bytes h r ((a * blocks_across h + b) * h.depth + d))) (length (bytes_at h r spot)) (λ _ wide. ap length (sym (bytes_there h r ((a * blocks_across h + b) * h.depth + d) spot (at wide))))
    ∙ ap (λ (t : Bool). if t && nat_lt b (blocks_across h) then length (bytes_at h r spot) else 0) rows
    ∙ ap (λ (t : Bool). if nat_lt row h.rows && t then length (bytes_at h r spot) else 0) cols
  where
    spot : BlockAt
    spot = record { row = row; col = col; d = d }

    at : nat_lt b (blocks_across h) ≡ true → IsBlockAt h ((a * blocks_across h + b) * h.depth + d) spot
    at wide =
        let is = parts (blocks_across h) h.depth a b d (is_below b (blocks_across h) wide) low in
        record {
          row = top ∙ ap (λ (s : ℕ). a * s) (sym side) ∙ ap (λ (k : ℕ). k * h.side) (sym is.down);
          col = left ∙ ap (λ (s : ℕ). b * s) (sym side) ∙ ap (λ (k : ℕ). k * h.side) (sym is.along);
          depth = sym is.deep;
        }

    rows : nat_lt a (blocks_down h) ≡ nat_lt row h.rows
    rows = same_test a (blocks_down h) row h.rows (λ low. let e = eights h.rows h.side side in omega (arith, e, low, top)) (λ low. let e = eights h.rows h.side side in omega (arith, e, low, top))

    cols : nat_lt b (blocks_across h) ≡ nat_lt col h.cols
    cols = same_test b (blocks_across h) col h.cols (λ low. let e = eights h.cols h.side side in omega (arith, e, low, left)) (λ low. let e = eights h.cols h.side side in omega (arith, e, low, left))

length_pair : {X : Type 0} (g : ℕ → List X) (n k : ℕ) → length (flat_map g (pair n k)) ≡ length (g (k * 2)) + (if nat_lt (k * 2 + 1) n then length (g (k * 2 + 1)) else 0)
length_pair {X = X} g n k = length-append (g (k * 2)) (flat_map g (if nat_lt (k * 2 + 1) n then (k * 2 + 1) ∷ [] else [])) ∙ ap (λ (m : ℕ). length (g (k * 2)) + m) (one (nat_lt (k * 2 + 1) n))
  where
    one : (b : Bool) → length (flat_map g (if b then (k * 2 + 1) ∷ [] else [])) ≡ (if b then length (g (k * 2 + 1)) else 0)
    one true = ap length (append-nil (g (k * 2 + 1)))
    one false = refl

sized : (t u v : Bool) (x y : ℕ) → u ≡ true → (if t then x + (if v then y else 0) else 0) ≡ (if t && u then x else 0) + (if t && v then y else 0)
sized false u v x y e = refl
sized true true v x y e = refl
sized true false v x y e = absurd (cc)

test_true : (p n : ℕ) → p < n → nat_lt p n ≡ true
test_true p n low = elim (leb_tells (suc p) n) [
  | inl fits ↦ fits.0
  | inr past ↦ absurd (let b = past.1 in omega (arith, low, b))
]

square_cells : (h : Header) (r : Pixels) (m n d : ℕ) → m * 2 < blocks_down h → n * 2 < blocks_across h
    → length (square (coded_bytes h r) (blocks_down h) (blocks_across h) h.depth m n d) ≡ (cell h r (m * 2) (n * 2) d + cell h r (m * 2) (n * 2 + 1) d) + (cell h r (m * 2 + 1) (n * 2) d + cell h r (m * 2 + 1) (n * 2 + 1) d)
square_cells h r m n d low_m low_n =
    length_pair row (blocks_down h) m
    ∙ ap (λ (k : ℕ). k + (if nat_lt (m * 2 + 1) (blocks_down h) then length (row (m * 2 + 1)) else 0)) first
    ∙ ap (λ (k : ℕ). (cell h r (m * 2) (n * 2) d + cell h r (m * 2) (n * 2 + 1) d) + k) second
  where
    row : ℕ → List ℕ
    row a = flat_map (λ b. coded_bytes h r ((a * blocks_across h + b) * h.depth + d)) (pair (blocks_across h) n)

    one : ℕ → ℕ → ℕ
    one a b = length (coded_bytes h r ((a * blocks_across h + b) * h.depth + d))

    long : (a : ℕ) → length (row a) ≡ one a (n * 2) + (if nat_lt (n * 2 + 1) (blocks_across h) then one a (n * 2 + 1) else 0)
    long a = length_pair (λ b. coded_bytes h r ((a * blocks_across h + b) * h.depth + d)) (blocks_across h) n

    there : nat_lt (n * 2) (blocks_across h) ≡ true
    there = test_true (n * 2) (blocks_across h) low_n

    first : length (row (m * 2)) ≡ cell h r (m * 2) (n * 2) d + cell h r (m * 2) (n * 2 + 1) d
    first =
        long (m * 2) ∙ sized true (nat_lt (n * 2) (blocks_across h)) (nat_lt (n * 2 + 1) (blocks_across h)) (one (m * 2) (n * 2)) (one (m * 2) (n * 2 + 1)) there
        ∙ ap (λ (t : Bool). (if t && nat_lt (n * 2) (blocks_across h) then one (m * 2) (n * 2) else 0) + (if t && nat_lt (n * 2 + 1) (blocks_across h) then one (m * 2) (n * 2 + 1) else 0)) (sym (test_true (m * 2) (blocks_down h) low_m))

    second : (if nat_lt (m * 2 + 1) (blocks_down h) then length (row (m * 2 + 1)) else 0) ≡ cell h r (m * 2 + 1) (n * 2) d + cell h r (m * 2 + 1) (n * 2 + 1) d
    second =
        ap (λ (k : ℕ). if nat_lt (m * 2 + 1) (blocks_down h) then k else 0) (long (m * 2 + 1))
        ∙ sized (nat_lt (m * 2 + 1) (blocks_down h)) (nat_lt (n * 2) (blocks_across h)) (nat_lt (n * 2 + 1) (blocks_across h)) (one (m * 2 + 1) (n * 2)) (one (m * 2 + 1) (n * 2 + 1)) there

square_size : (h : Header) (r : Pixels) → h.side ≡ 8 → (m n d : ℕ) → m * 2 < blocks_down h → n * 2 < blocks_across h → d < h.depth
    → length (square (coded_bytes h r) (blocks_down h) (blocks_across h) h.depth m n d) ≡ four_sizes h r (record { row = m * 16; col = n * 16; d = d })
square_size h r side m n d low_m low_n low =
    let c1 = cell_is h r side (m * 2) (n * 2) d (m * 16) (n * 16) low (omega arith) (omega arith) in
    let c2 = cell_is h r side (m * 2) (n * 2 + 1) d (m * 16) (n * 16 + 8) low (omega arith) (omega arith) in
    let c3 = cell_is h r side (m * 2 + 1) (n * 2) d (m * 16 + 8) (n * 16) low (omega arith) (omega arith) in
    let c4 = cell_is h r side (m * 2 + 1) (n * 2 + 1) d (m * 16 + 8) (n * 16 + 8) low (omega arith) (omega arith) in
    square_cells h r m n d low_m low_n ∙ (λ i. (c1 i + c2 i) + (c3 i + c4 i))
    ∙ four (size_at h r (record { row = m * 16; col = n * 16; d = d })) (size_at h r (record { row = m * 16; col = n * 16 + 8; d = d })) (size_at h r (record { row = m * 16 + 8; col = n * 16; d = d })) (size_at h r (record { row = m * 16 + 8; col = n * 16 + 8; d = d }))
  where
    four : (a b c e : ℕ) → (a + b) + (c + e) ≡ a + (b + (c + e))
    four a b c e = omega arith

-- ---- all squares

same_sum : (f g : ℕ → ℕ) (a n : ℕ) → ((k : ℕ) → k < a + n → f k ≡ g k) → sum_by f (range_with_len a n) ≡ sum_by g (range_with_len a n)
same_sum f g a zero h = refl
same_sum f g a (suc n) h =
    sum_by-cons f a (range_with_len (a + 1) n)
    ∙ (λ i. h a (omega arith) i + same_sum f g (a + 1) n (λ k low. h k (omega (arith, low))) i)
    ∙ sym (sum_by-cons g a (range_with_len (a + 1) n))

halved : (n side : ℕ) → side ≡ 8 → (n + 16 - 1) / 16 ≡ ((n + side - 1) / side + 1) / 2
halved n side e = (let t : (n + 16 - 1) / 16 ≡ ((n + 8 - 1) / 8 + 1) / 2 = omega arith in t) ∙ ap (λ (k : ℕ). (k + 1) / 2) (sym (eights n side e))

pub quarters_all : (h : Header) (r : Pixels) → IsBlocked h r → h.side ≡ 8 → quarters_so_far h r (coded_blocks (record h { side = 16 })) ≡ length (blocks_bytes h r)
unfolding blocks_bytes
quarters_all h r is side =
    ap (λ (n : ℕ). quarters_so_far h r n) count
    ∙ sym (same_sum (λ k. length (squared k)) (λ k. four_sizes h r (spot_of (record h { side = 16 }) k)) 0 (high * wide * h.depth) (λ k low. each k (omega (arith, low))))
    ∙ sym (length-flat_map squared (range_with_len 0 (high * wide * h.depth)))
    ∙ length_permutation (flat_map (coded_bytes h r) (range_with_len 0 (coded_blocks h))) (flat_map squared (range_with_len 0 (high * wide * h.depth))) (squares_numbered (coded_bytes h r) (blocks_down h) (blocks_across h) h.depth deep some)
  where
    wide : ℕ
    wide = (blocks_across h + 1) / 2

    high : ℕ
    high = (blocks_down h + 1) / 2

    squared : ℕ → List ℕ
    squared k = square (coded_bytes h r) (blocks_down h) (blocks_across h) h.depth (k / h.depth / wide) (k / h.depth % wide) (k % h.depth)

    deep : 0 < h.depth
    deep = subst (λ n. 0 < n) (sym is.depth) is.sound.shape.depth_above

    some : 0 < wide
    some = let c : 0 < h.cols = subst (λ n. 0 < n) (sym is.cols) is.sound.shape.cols_above in let e = halved h.cols h.side side in omega (arith, c, e)

    count : coded_blocks (record h { side = 16 }) ≡ high * wide * h.depth
    count = λ i. halved h.rows h.side side i * halved h.cols h.side side i * h.depth

    each : (k : ℕ) → k < high * wide * h.depth → length (squared k) ≡ four_sizes h r (spot_of (record h { side = 16 }) k)
    each k low =
        let block : k / h.depth < high * wide = div_below k h.depth (high * wide) deep low in
        let row : k / h.depth / wide < high = div_below (k / h.depth) wide high some block in
        let col : k / h.depth % wide < wide = mod_below (k / h.depth) wide some in
        square_size h r side (k / h.depth / wide) (k / h.depth % wide) (k % h.depth) (omega (arith, row)) (omega (arith, col)) (mod_below k h.depth deep)
        ∙ ap (λ (w : ℕ). four_sizes h r (record { row = k / h.depth / w * 16; col = k / h.depth % w * 16; d = k % h.depth })) (sym (halved h.cols h.side side))

pub quarters_part : (h : Header) (r : Pixels) → IsBlocked h r → h.side ≡ 8 → (n : ℕ) → n ≤ coded_blocks (record h { side = 16 }) → quarters_so_far h r n ≤ length (blocks_bytes h r)
quarters_part h r is side n low = subst (λ (k : ℕ). quarters_so_far h r n ≤ k) (quarters_all h r is side) (part (λ k. four_sizes h r (spot_of (record h { side = 16 }) k)) n (coded_blocks (record h { side = 16 })) low)
  where
    part : (f : ℕ → ℕ) (n m : ℕ) → n ≤ m → sum_by f (range_with_len 0 n) ≤ sum_by f (range_with_len 0 m)
    part f n m low =
        let e : n + (m - n) ≡ m = omega (arith, low) in
        let s = run_sum f n (m - n) in
        subst (λ (k : ℕ). sum_by f (range_with_len 0 n) ≤ sum_by f (range_with_len 0 k)) e (omega (arith, s))

-- ---- each block is in one square

-- block k of side 8 stands in block m of side 16
pub record IsQuarter (h : Header) (m k : ℕ) : Type 0 where
  pub i : ℕ
  pub j : ℕ
  pub low_i : i < 2
  pub low_j : j < 2
  pub row : block_row h k ≡ block_row (record h { side = 16 }) m + i * 8
  pub col : block_col h k ≡ block_col (record h { side = 16 }) m + j * 8
  pub depth : block_depth h k ≡ block_depth (record h { side = 16 }) m

pub in_one : (h : Header) (r : Pixels) → IsBlocked h r → h.side ≡ 8 → (k : ℕ) → k < coded_blocks h → (m : ℕ) × ((m < coded_blocks (record h { side = 16 })) × IsQuarter h m k)
in_one h r is side k low = (
  m,
  (
    within,
    record {
      i = a % 2;
      j = b % 2;
      low_i = omega arith;
      low_j = omega arith;
      row = ap (λ (s : ℕ). a * s) side ∙ (let e : a * 8 ≡ a / 2 * 16 + a % 2 * 8 = omega arith in e) ∙ ap (λ (n : ℕ). n * 16 + a % 2 * 8) (sym at.down);
      col = ap (λ (s : ℕ). b * s) side ∙ (let e : b * 8 ≡ b / 2 * 16 + b % 2 * 8 = omega arith in e) ∙ ap (λ (n : ℕ). n * 16 + b % 2 * 8) (sym at.along);
      depth = sym at.deep;
    },
  ),
)
  where
    deep : 0 < h.depth
    deep = subst (λ n. 0 < n) (sym is.depth) is.sound.shape.depth_above

    wide : ℕ
    wide = (h.cols + 16 - 1) / 16

    a : ℕ
    a = k / h.depth / blocks_across h

    b : ℕ
    b = k / h.depth % blocks_across h

    m : ℕ
    m = (a / 2 * wide + b / 2) * h.depth + k % h.depth

    some : 0 < blocks_across h
    some = let c : 0 < h.cols = subst (λ n. 0 < n) (sym is.cols) is.sound.shape.cols_above in let e = eights h.cols h.side side in omega (arith, c, e)

    low_b : b / 2 < wide
    low_b = let l : b < blocks_across h = mod_below (k / h.depth) (blocks_across h) some in let e = halved h.cols h.side side in omega (arith, l, e)

    low_a : a / 2 < (h.rows + 16 - 1) / 16
    low_a =
        let l : a < blocks_down h = div_below (k / h.depth) (blocks_across h) (blocks_down h) some (div_below k h.depth (blocks_down h * blocks_across h) deep low) in
        let e = halved h.rows h.side side in
        omega (arith, l, e)

    at : AreParts wide h.depth m (a / 2) (b / 2) (k % h.depth)
    at = parts wide h.depth (a / 2) (b / 2) (k % h.depth) low_b (mod_below k h.depth deep)

    within : m < coded_blocks (record h { side = 16 })
    within = row_less (a / 2 * wide + b / 2) (k % h.depth) h.depth ((h.rows + 16 - 1) / 16 * wide) (row_less (a / 2) (b / 2) wide ((h.rows + 16 - 1) / 16) low_a low_b) (mod_below k h.depth deep)

-- where it stands
pub quarter_spot : (h : Header) (m k : ℕ) (spot : BlockAt) → IsBlockAt (record h { side = 16 }) m spot → (q : IsQuarter h m k) → IsBlockAt h k (record { row = spot.row + q.i * 8; col = spot.col + q.j * 8; d = spot.d })
quarter_spot h m k spot at q = record {
  row = ap (λ (n : ℕ). n + q.i * 8) at.row ∙ sym q.row;
  col = ap (λ (n : ℕ). n + q.j * 8) at.col ∙ sym q.col;
  depth = at.depth ∙ sym q.depth;
}
