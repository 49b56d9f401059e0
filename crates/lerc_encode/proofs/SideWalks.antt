-- The walk over the blocks of side 16, and what is known at its end.
use Rattle.std.proofs.Common.{◌≡◌, ℕ, zero, suc, ◌+◌, ◌*◌, ◌%◌, ◌<◌, ◌≤◌, ◌⊎◌, inl, inr, List, length, length-append, take, map, refl, sym, ap, ◌∙◌, subst, arith, Option, Some, None}
use Rattle.std.specs.Prelude.{ℤ, All, MatchOption}
use Rattle.std.specs.List.{flat_map, range_with_len}
use Rattle.std.proofs.lemmas.Bool.{cases_lt}
use Rattle.std.proofs.lemmas.List.Elements.{All-append}
use Rattle.std.proofs.Math.Nat.{mul-le-mul_left, mul-le-mul_right}
use Rattle.lut_stuff.specs.Facts.{Rises}
use Rattle.raster_cells.specs.declared.kind.PixelType.{PixelType}
use Rattle.raster_cells.specs.PixelType.{InRange}
use Rattle.raster_cells.specs.Distance.{value_above}
use Rattle.raster_values.specs.Raster.{Pixels}
use Rattle.lerc_header.specs.declared.header.Header.{Header}
use Rattle.lerc_grammar.specs.Blocks.{coded_blocks}
use Rattle.lerc_encode.specs.Images.{blocks_bytes, coded_bytes}
use Rattle.lerc_encode.specs.declared.blocks.chosen_blocks.BlockAt.{BlockAt}
use Rattle.lerc_encode.specs.declared.blocks.chosen_blocks.Measured.{Measured}
use Rattle.lerc_encode.specs.inside.Blocked.{AreFlags, HasTable, HasTableAt, IsBlocked, IsMeasured, IsBlockAt, IsWithin, bytes_at}
use Rattle.lerc_encode.specs.declared.blocks.flags.Flags.{Flags}
use Rattle.lerc_encode.specs.inside.Flags.{IsMarked, room_of}
use Rattle.lerc_encode.specs.inside.Sides.{AreFlaggedAt, AreMore, IsFlaggedAt, IsMore, below, corner, four_sizes, four_values, right_of}
use Rattle.lerc_encode.proofs.Blocking.{block_fits}
use Rattle.lerc_encode.proofs.Runs.{one_more, part_fits}
use Rattle.lerc_encode.proofs.SideSteps.{two_more}
use Rattle.lerc_encode.proofs.BlocksAt.{bytes_there, form_there, spot_within}
use Rattle.lerc_encode.proofs.Quartered.{IsQuarter, in_one, quarter_spot, quarters_all, quarters_more, quarters_part, quarters_so_far, spot_number, spot_of}

-- ---- flags

-- the flags of the blocks seen are set that have a table; where each has its own, none else is
pub record AreMarked (RasterRef : ℕ → Type 0) (h : Header) (r : Pixels) (most size : ℕ) (tables : Flags) : Type 0 where
  pub room : coded_blocks h ≤ room_of tables
  pub sound : tables.group ≡ 1 → (k : ℕ) → IsMarked tables k → HasTable h r k
  pub done : size ≤ most → (k : ℕ) → k < coded_blocks h → RasterRef k → HasTable h r k → IsMarked tables k

pub none_marked : (RasterRef : ℕ → Type 0) (h : Header) (r : Pixels) (most size : ℕ) (tables : Flags) → coded_blocks h ≤ room_of tables → ((k : ℕ) → IsMarked tables k → ⊥) → ((k : ℕ) → RasterRef k → ⊥) → AreMarked RasterRef h r most size tables
none_marked RasterRef h r most size tables room none unseen = record { room = room; sound = λ one k is. absurd (none k is); done = λ le k low seen has. absurd (unseen k seen) }

pub more_marked : (RasterRef More : ℕ → Type 0) (h : Header) (r : Pixels) (most n a b : ℕ) (old new : Flags) → AreMarked RasterRef h r most a old → IsMore most n a b → AreMore h r old new
    → (b ≤ most → (k : ℕ) → k < coded_blocks h → More k → HasTable h r k → RasterRef k ⊎ IsMarked new k) → AreMarked More h r most b new
more_marked RasterRef More h r most n a b old new are size more here = record {
  room = let room = are.room in let long = more.room in omega (arith, room, long);
  sound = λ one k is. back (sym more.group ∙ one) k (more.sound one k is);
  done = λ le k low seen has. by k low has (size.within le).0 (here le k low seen has);
}
  where
    back : old.group ≡ 1 → (k : ℕ) → IsMarked old k ⊎ HasTable h r k → HasTable h r k
    back one k (inl set) = are.sound one k set
    back one k (inr has) = has

    by : (k : ℕ) → k < coded_blocks h → HasTable h r k → a ≤ most → RasterRef k ⊎ IsMarked new k → IsMarked new k
    by k low has le (inl seen) = more.kept k (are.done le k low seen has)
    by k low has le (inr set) = set

pub all_marked : (RasterRef : ℕ → Type 0) (h : Header) (r : Pixels) (most size : ℕ) (tables : Flags) → AreMarked RasterRef h r most size tables → size ≤ most → ((k : ℕ) → k < coded_blocks h → RasterRef k) → AreFlags h r (coded_blocks h) tables
all_marked RasterRef h r most size tables are le all = record {
  room = are.room;
  each = λ k low has. are.done le k low (all k low) has;
  sound = λ one k low is. are.sound one k is;
}

-- ---- those of side 16

pub large_here : (h : Header) (r : Pixels) (n : ℕ) (spot : BlockAt) (tables : Flags) → IsBlockAt h n spot → (HasTableAt h r spot → IsMarked tables n) → (k : ℕ) → k < n + 1 → HasTable h r k → (k < n) ⊎ IsMarked tables k
large_here h r n spot tables at flagged k low has = by (cases_lt k n)
  where
    same : n ≤ k → k ≡ n
    same high = omega (arith, high, low)

    by : (k < n) ⊎ (n ≤ k) → (k < n) ⊎ IsMarked tables k
    by (inl before) = inl before
    by (inr high) = inr (subst (IsMarked tables) (sym (same high)) (flagged (form_there h r n spot at ∙ subst (HasTable h r) (same high) has)))

-- ---- those of side 8

-- block k stands in one of the first n blocks of side 16
abbrev pub IsInFirst : Header → ℕ → ℕ → Type 0
IsInFirst h n k = (m : ℕ) × ((m < n) × IsQuarter h m k)

flag_of : (h : Header) (r : Pixels) → IsBlocked h r → (k : ℕ) → k < coded_blocks h → (spot : BlockAt) (tables : Flags) → IsBlockAt h k spot → IsFlaggedAt h r spot tables → HasTable h r k → IsMarked tables k
flag_of h r is k low spot tables at flagged has = subst (IsMarked tables) (sym (spot_number h k spot is.side_above at)) (flagged (spot_within h r is k low spot at) (form_there h r k spot at ∙ has))

two : (i : ℕ) → i < 2 → (i ≡ 0) ⊎ (i ≡ 1)
two zero low = inl refl
two (suc zero) low = inr refl
two (suc (suc i)) low = absurd (omega (arith, low))

one_of : (h : Header) (r : Pixels) → IsBlocked h r → (k : ℕ) → k < coded_blocks h → (spot : BlockAt) (tables : Flags) (i j : ℕ) → IsBlockAt h k (record { row = spot.row + i * 8; col = spot.col + j * 8; d = spot.d }) → AreFlaggedAt h r spot tables → HasTable h r k
    → (i ≡ 0) ⊎ (i ≡ 1) → (j ≡ 0) ⊎ (j ≡ 1) → IsMarked tables k
one_of h r is k low spot tables i j at are has (inl a) (inl b) =
    flag_of h r is k low spot tables (record { row = (let e : spot.row ≡ spot.row + i * 8 = omega (arith, a) in e) ∙ at.row; col = (let e : spot.col ≡ spot.col + j * 8 = omega (arith, b) in e) ∙ at.col; depth = at.depth }) are.first has
one_of h r is k low spot tables i j at are has (inl a) (inr b) =
    flag_of h r is k low (right_of spot) tables (record { row = (let e : spot.row ≡ spot.row + i * 8 = omega (arith, a) in e) ∙ at.row; col = (let e : spot.col + 8 ≡ spot.col + j * 8 = omega (arith, b) in e) ∙ at.col; depth = at.depth }) are.right has
one_of h r is k low spot tables i j at are has (inr a) (inl b) =
    flag_of h r is k low (below spot) tables (record { row = (let e : spot.row + 8 ≡ spot.row + i * 8 = omega (arith, a) in e) ∙ at.row; col = (let e : spot.col ≡ spot.col + j * 8 = omega (arith, b) in e) ∙ at.col; depth = at.depth }) are.under has
one_of h r is k low spot tables i j at are has (inr a) (inr b) =
    flag_of h r is k low (corner spot) tables (record { row = (let e : spot.row + 8 ≡ spot.row + i * 8 = omega (arith, a) in e) ∙ at.row; col = (let e : spot.col + 8 ≡ spot.col + j * 8 = omega (arith, b) in e) ∙ at.col; depth = at.depth }) are.last has

pub small_here : (h : Header) (r : Pixels) → IsBlocked h r → (n : ℕ) (spot : BlockAt) (tables : Flags) → IsBlockAt (record h { side = 16 }) n spot → AreFlaggedAt h r spot tables → (k : ℕ) → k < coded_blocks h → IsInFirst h (n + 1) k → HasTable h r k
    → IsInFirst h n k ⊎ IsMarked tables k
small_here h r is n spot tables at are k low (m, (first, quarter)) has = by (cases_lt m n)
  where
    same : n ≤ m → n ≡ m
    same high = omega (arith, high, first)

    by : (m < n) ⊎ (n ≤ m) → IsInFirst h n k ⊎ IsMarked tables k
    by (inl before) = inl (m, (before, quarter))
    by (inr high) = inr (one_of h r is k low spot tables quarter.i quarter.j (quarter_spot h m k spot (subst (λ x. IsBlockAt (record h { side = 16 }) x spot) (same high) at) quarter) are has (two quarter.i quarter.low_i) (two quarter.j quarter.low_j))

-- the bytes of these
spot_is : (h : Header) (k : ℕ) (spot : BlockAt) → IsBlockAt h k spot → spot ≡ spot_of h k
spot_is h k spot at = λ t. record { row = at.row t; col = at.col t; d = at.depth t }

pub small_more : (h : Header) (r : Pixels) (n : ℕ) (spot : BlockAt) → IsBlockAt (record h { side = 16 }) n spot → quarters_so_far h r (n + 1) ≡ quarters_so_far h r n + four_sizes h r spot
small_more h r n spot at = quarters_more h r n ∙ ap (λ (s : BlockAt). quarters_so_far h r n + four_sizes h r s) (sym (spot_is (record h { side = 16 }) n spot at))

-- ---- at the end

pub finished : (h : Header) (r : Pixels) (most total size : ℕ) (tables : Flags) → IsMore most total 0 size → total ≡ length (blocks_bytes h r) → most ≤ 67108865 → (size ≤ most → AreFlags h r (coded_blocks h) tables)
    → (found : Option Measured) → MatchOption found (most < size) (λ m. (m.size ≡ size) × ((size ≤ most) × ((m.tables ≡ tables) × (Rises (take m.values.count m.values.values) × (m.values.count ≤ 256)))))
    → MatchOption found (most < length (blocks_bytes h r)) (IsMeasured h r)
finished h r most total size tables more all few flags None over = let less = more.over over in omega (arith, less, all)
finished h r most total size tables more all few flags (Some m) is = record {
  size = is.0 ∙ (let e = (more.within is.1.0).1 in omega (arith, e, all));
  few = let e = is.0 in let le = is.1.0 in omega (arith, e, le, few);
  tables = subst (AreFlags h r (coded_blocks h)) (sym is.1.1.0) (flags is.1.0);
  rises = is.1.1.1.0;
  few_values = is.1.1.1.1;
}

-- ---- a block of side 16 and those in it

pub side_blocked : (h g : Header) (r : Pixels) → IsBlocked h r → g ≡ record h { side = 16 } → IsBlocked g r
side_blocked h g r is e = subst (λ (x : Header). IsBlocked x r) (sym e) (record {
  sound = is.sound;
  kind = is.kind;
  rows = is.rows;
  cols = is.cols;
  depth = is.depth;
  side_above = omega arith;
  side_below = omega arith;
  step = is.step;
})

pub spot_in_both : (h g : Header) (r : Pixels) → IsBlocked h r → g ≡ record h { side = 16 } → (k : ℕ) → k < coded_blocks g → (spot : BlockAt) → IsBlockAt g k spot → IsWithin h spot × ((spot.row % 8 ≡ 0) × (spot.col % 8 ≡ 0))
spot_in_both h g r is e k low spot at =
    let there : IsBlockAt (record h { side = 16 }) k spot = subst (λ (x : Header). IsBlockAt x k spot) e at in
    let less : k < coded_blocks (record h { side = 16 }) = subst (λ (x : Header). k < coded_blocks x) e low in
    let w = spot_within (record h { side = 16 }) r (side_blocked h (record h { side = 16 }) r is refl) k less spot there in
    let row = there.row in
    let col = there.col in
    (record { row = w.row; col = w.col; depth = w.depth }, (sixteenth spot.row _ row, sixteenth spot.col _ col))
  where
    sixteenth : (x n : ℕ) → x ≡ n * 16 → x % 8 ≡ 0
    sixteenth x n same = omega (arith, same)

-- the values of four blocks are the type's
pub four_fit : (h : Header) (r : Pixels) → IsBlocked h r → (spot : BlockAt) → All (InRange h.kind) (four_values r spot)
four_fit h r is spot = subst (λ (t : PixelType). All (InRange t) (four_values r spot)) (sym is.kind)
    (All-append (InRange r.kind) _ _ (All-append (InRange r.kind) _ _ (All-append (InRange r.kind) _ _ (block_fits r is.sound spot.row spot.col 8 spot.d) (block_fits r is.sound spot.row (spot.col + 8) 8 spot.d)) (block_fits r is.sound (spot.row + 8) spot.col 8 spot.d)) (block_fits r is.sound (spot.row + 8) (spot.col + 8) 8 spot.d))

-- of the type of either header
pub other_values : (h g : Header) (values : List ℕ) (all : List ℤ) → g ≡ record h { side = 16 } → map (value_above h.kind) values ≡ all → map (value_above g.kind) values ≡ all
other_values h g values all e is = ap (λ (x : Header). map (value_above x.kind) values) e ∙ is

-- ---- totals

pub small_total : (h : Header) (r : Pixels) (most n : ℕ) (spot : BlockAt) (a b : ℕ) → IsBlockAt (record h { side = 16 }) n spot → IsMore most (quarters_so_far h r n) 0 a → IsMore most (four_sizes h r spot) a b → IsMore most (quarters_so_far h r (n + 1)) 0 b
small_total h r most n spot a b at before more = subst (λ (x : ℕ). IsMore most x 0 b) (sym (small_more h r n spot at)) (two_more most (quarters_so_far h r n) (four_sizes h r spot) 0 a b before more)

pub large_total : (h : Header) (r : Pixels) (most n : ℕ) (spot : BlockAt) (a b : ℕ) → IsBlockAt h n spot → IsMore most (length (flat_map (coded_bytes h r) (range_with_len 0 n))) 0 a → IsMore most (length (bytes_at h r spot)) a b
    → IsMore most (length (flat_map (coded_bytes h r) (range_with_len 0 (n + 1)))) 0 b
large_total h r most n spot a b at before more =
    let f = coded_bytes h r in
    let here : length (bytes_at h r spot) ≡ length (f n) = ap length (bytes_there h r n spot at) in
    let whole : length (flat_map f (range_with_len 0 (n + 1))) ≡ length (flat_map f (range_with_len 0 n)) + length (f n) = ap length (one_more f 0 n n (omega arith)) ∙ length-append (flat_map f (range_with_len 0 n)) (f n) in
    subst (λ (x : ℕ). IsMore most x 0 b) ((let e : length (flat_map f (range_with_len 0 n)) + length (bytes_at h r spot) ≡ length (flat_map f (range_with_len 0 (n + 1))) = omega (arith, here, whole) in e))
    (two_more most (length (flat_map f (range_with_len 0 n))) (length (bytes_at h r spot)) 0 a b before more)

-- so far is too much
pub small_over : (h g : Header) (r : Pixels) (most n : ℕ) (a : ℕ) → IsBlocked h r → h.side ≡ 8 → g ≡ record h { side = 16 } → n ≤ coded_blocks g → IsMore most (quarters_so_far h r n) 0 a → most < a → most < length (blocks_bytes h r)
small_over h g r most n a is side e low more over =
    let part = quarters_part h r is side n (subst (λ (x : Header). n ≤ coded_blocks x) e low) in
    let less = more.over over in
    omega (arith, part, less)

pub large_over : (h : Header) (r : Pixels) (most n : ℕ) (a : ℕ) → n < coded_blocks h → IsMore most (length (flat_map (coded_bytes h r) (range_with_len 0 (n + 1)))) 0 a → most < a → most < length (blocks_bytes h r)
unfolding blocks_bytes
large_over h r most n a low more over =
    let f = coded_bytes h r in
    let whole : length (flat_map f (range_with_len 0 (n + 1))) ≡ length (flat_map f (range_with_len 0 n)) + length (f n) = ap length (one_more f 0 n n (omega arith)) ∙ length-append (flat_map f (range_with_len 0 n)) (f n) in
    let part = part_fits f n (coded_blocks h) low in
    let less = more.over over in
    omega (arith, part, less, whole)

-- all
pub small_done : (h g : Header) (r : Pixels) (most n size : ℕ) (tables : Flags) → IsBlocked h r → h.side ≡ 8 → g ≡ record h { side = 16 } → n ≡ coded_blocks g → most ≤ 67108865 → IsMore most (quarters_so_far h r n) 0 size → AreMarked (IsInFirst h n) h r most size tables
    → (found : Option Measured) → MatchOption found (most < size) (λ m. (m.size ≡ size) × ((size ≤ most) × ((m.tables ≡ tables) × (Rises (take m.values.count m.values.values) × (m.values.count ≤ 256)))))
    → MatchOption found (most < length (blocks_bytes h r)) (IsMeasured h r)
small_done h g r most n size tables is side e all few more marked found was =
    let every : n ≡ coded_blocks (record h { side = 16 }) = all ∙ ap (λ (x : Header). coded_blocks x) e in
    finished h r most (quarters_so_far h r n) size tables more (ap (quarters_so_far h r) every ∙ quarters_all h r is side) few
    (λ le. all_marked (IsInFirst h n) h r most size tables marked le (λ k low. (let one = in_one h r is side k low in (one.0, (subst (λ j. one.0 < j) (sym every) one.1.0, one.1.1))))) found was

pub large_done : (h : Header) (r : Pixels) (most n size : ℕ) (tables : Flags) → n ≡ coded_blocks h → most ≤ 67108865 → IsMore most (length (flat_map (coded_bytes h r) (range_with_len 0 n))) 0 size → AreMarked (λ i. i < n) h r most size tables
    → (found : Option Measured) → MatchOption found (most < size) (λ m. (m.size ≡ size) × ((size ≤ most) × ((m.tables ≡ tables) × (Rises (take m.values.count m.values.values) × (m.values.count ≤ 256)))))
    → MatchOption found (most < length (blocks_bytes h r)) (IsMeasured h r)
unfolding blocks_bytes
large_done h r most n size tables all few more marked found was =
    finished h r most (length (flat_map (coded_bytes h r) (range_with_len 0 n))) size tables more (ap (λ j. length (flat_map (coded_bytes h r) (range_with_len 0 j))) all) few
    (λ le. all_marked (λ i. i < n) h r most size tables marked le (λ k low. subst (λ j. k < j) (sym all) low)) found was

-- a block stands at small numbers
pub spot_few : (h : Header) (r : Pixels) (spot : BlockAt) → IsBlocked h r → IsWithin h spot → (spot.row < 16777216) × (spot.col < 16777216)
spot_few h r spot is within =
    let rows : 1 ≤ h.rows = subst (λ n. 1 ≤ n) (sym is.rows) (omega (arith, is.sound.shape.rows_above)) in
    let cols : 1 ≤ h.cols = subst (λ n. 1 ≤ n) (sym is.cols) (omega (arith, is.sound.shape.cols_above)) in
    let depth : 1 ≤ h.depth = subst (λ n. 1 ≤ n) (sym is.depth) (omega (arith, is.sound.shape.depth_above)) in
    let all : h.rows * h.cols * h.depth ≤ 16777216 = subst (λ n. n ≤ 16777216) (λ t. sym is.rows t * sym is.cols t * sym is.depth t) is.sound.shape.size in
    let a : h.rows * h.cols * 1 ≤ h.rows * h.cols * h.depth = mul-le-mul_left (h.rows * h.cols) depth in
    let b : h.rows * 1 ≤ h.rows * h.cols = mul-le-mul_left h.rows cols in
    let c : 1 * h.cols ≤ h.rows * h.cols = mul-le-mul_right h.cols rows in
    let row = within.row in
    let col = within.col in
    (omega (arith, a, b, all, row), omega (arith, a, c, all, col))
