-- Where blocks stand, from one to the next, and what is kept of each.
use Rattle.std.proofs.Common.{◌≡◌, ℕ, ◌+◌, ◌-◌, ◌*◌, ◌/◌, ◌%◌, ◌<◌, ◌≤◌, Bool, List, ◌++◌, length, take, sym, ap, ◌∙◌, subst, arith}
use Rattle.std.specs.Prelude.{ℤ, ◌≤ℤ◌, ◌↔◌, IsTrue, All, map}
use Rattle.std.proofs.lemmas.Nat.{div-add-mod', div-mul-add, mod-mul-add, div_below, le-div, mod_below}
use Rattle.std.proofs.lemmas.List.{length-map, take_at}
use Rattle.raster_cells.specs.declared.kind.PixelType.{PixelType}
use Rattle.raster_cells.specs.PixelType.{InRange, type_greatest}
use Rattle.raster_cells.specs.Distance.{IsDistance, distance_of, value_above}
use Rattle.raster_values.proofs.BlockLaws.{has_count}
use Rattle.raster_cells.proofs.Distances.{all_small, stand}
use Rattle.raster_values.specs.Raster.{Pixels}
use Rattle.raster_values.specs.Block.{block_count, block_values}
use Rattle.lerc_header.specs.declared.header.Header.{Header}
use Rattle.micro_block.specs.declared.context.BlockCtx.{BlockCtx}
use Rattle.micro_block.specs.ChosenBlock as micro
use Rattle.micro_block.specs.ChosenBlock.{block_bytes, chosen_form}
use Rattle.lerc_grammar.specs.Blocks.{blocks_across, block_col, coded_blocks, coded_values}
use Rattle.lerc_encode.specs.Images.{coded_bytes}
use Rattle.lerc_encode.specs.declared.blocks.chosen_blocks.BlockAt.{BlockAt}
use Rattle.lerc_encode.specs.inside.Blocked.{HasTable, HasTableAt, IsBlocked, IsBlockAt, IsWithin, bytes_at, values_at}
use Rattle.lerc_encode.proofs.Blocking.{block_fits, row_within, col_within, depth_within}

-- ---- one number more

one_within : (k n : ℕ) → k % n + 1 < n → ((k + 1) / n ≡ k / n) × ((k + 1) % n ≡ k % n + 1)
one_within k n low =
    let parts = div-add-mod' k n in
    let is : k + 1 ≡ k / n * n + (k % n + 1) = omega (arith, parts) in
    (ap (λ m. m / n) is ∙ div-mul-add (k / n) n (k % n + 1) low, ap (λ m. m % n) is ∙ mod-mul-add (k / n) n (k % n + 1) low)

one_over : (k n : ℕ) → 0 < n → k % n + 1 ≡ n → ((k + 1) / n ≡ k / n + 1) × ((k + 1) % n ≡ 0)
one_over k n some last =
    let parts = div-add-mod' k n in
    let more : (k / n + 1) * n ≡ k / n * n + n = omega arith in
    let is : k + 1 ≡ (k / n + 1) * n + 0 = omega (arith, parts, last, more) in
    (ap (λ m. m / n) is ∙ div-mul-add (k / n + 1) n 0 some, ap (λ m. m % n) is ∙ mod-mul-add (k / n + 1) n 0 some)

-- a block is the last of its row exactly where the columns end with it
not_last : (b n side : ℕ) → 0 < side → b * side + side < n → b + 1 < (n + side - 1) / side
not_last b n side some low =
    let up : (b + 2) * side ≡ b * side + side + side = omega arith in
    let e = le-div (b + 2) (n + side - 1) side some (omega (arith, up, low, some)) in
    omega (arith, e)

is_last : (b n side : ℕ) → 0 < side → n ≤ b * side + side → b < (n + side - 1) / side → b + 1 ≡ (n + side - 1) / side
is_last b n side some high low =
    let up : (b + 2) * side ≡ b * side + side + side = omega arith in
    let e = div_below (n + side - 1) side (b + 2) some (omega (arith, up, high, some)) in
    omega (arith, e, low)

-- ---- the next block

pub next_depth : (h : Header) (k : ℕ) (spot : BlockAt) → IsBlockAt h k spot → spot.d + 1 < h.depth → IsBlockAt h (k + 1) (record { row = spot.row; col = spot.col; d = spot.d + 1 })
next_depth h k spot is low =
    let step = one_within k h.depth (subst (λ n. n + 1 < h.depth) is.depth low) in
    record {
      row = is.row ∙ ap (λ n. n / blocks_across h * h.side) (sym step.0);
      col = is.col ∙ ap (λ n. n % blocks_across h * h.side) (sym step.0);
      depth = ap (λ n. n + 1) is.depth ∙ sym step.1;
    }

-- the first depth of the next block
over_depth : (h : Header) (k : ℕ) (spot : BlockAt) → IsBlockAt h k spot → spot.d < h.depth → h.depth ≤ spot.d + 1 → ((k + 1) / h.depth ≡ k / h.depth + 1) × ((k + 1) % h.depth ≡ 0)
over_depth h k spot is low last = let e = is.depth in one_over k h.depth (omega (arith, low)) (omega (arith, e, low, last))

pub next_col : (h : Header) (k : ℕ) (spot : BlockAt) → IsBlockAt h k spot → 0 < h.side → spot.d < h.depth → h.depth ≤ spot.d + 1 → spot.col + h.side < h.cols
    → IsBlockAt h (k + 1) (record { row = spot.row; col = spot.col + h.side; d = 0 })
next_col h k spot is some low last within =
    let b = k / h.depth in
    let wide = blocks_across h in
    let deep = over_depth h k spot is low last in
    let step = one_within b wide (not_last (b % wide) h.cols h.side some (subst (λ n. n + h.side < h.cols) is.col within)) in
    let more : (b % wide + 1) * h.side ≡ b % wide * h.side + h.side = omega arith in
    record {
      row = is.row ∙ ap (λ n. n * h.side) (sym step.0) ∙ ap (λ n. n / wide * h.side) (sym deep.0);
      col = ap (λ n. n + h.side) is.col ∙ sym more ∙ ap (λ n. n * h.side) (sym step.1) ∙ ap (λ n. n % wide * h.side) (sym deep.0);
      depth = sym deep.1;
    }

pub next_row : (h : Header) (k : ℕ) (spot : BlockAt) → IsBlockAt h k spot → 0 < h.side → spot.d < h.depth → h.depth ≤ spot.d + 1 → 0 < blocks_across h → h.cols ≤ spot.col + h.side
    → IsBlockAt h (k + 1) (record { row = spot.row + h.side; col = 0; d = 0 })
next_row h k spot is some low last across ends =
    let b = k / h.depth in
    let wide = blocks_across h in
    let deep = over_depth h k spot is low last in
    let step = one_over b wide across (is_last (b % wide) h.cols h.side some (subst (λ n. h.cols ≤ n + h.side) is.col ends) (mod_below b wide across)) in
    let more : (b / wide + 1) * h.side ≡ b / wide * h.side + h.side = omega arith in
    record {
      row = ap (λ n. n + h.side) is.row ∙ sym more ∙ ap (λ n. n * h.side) (sym step.0) ∙ ap (λ n. n / wide * h.side) (sym deep.0);
      col = (let z : 0 ≡ 0 * h.side = omega arith in z) ∙ ap (λ n. n * h.side) (sym step.1) ∙ ap (λ n. n % wide * h.side) (sym deep.0);
      depth = sym deep.1;
    }

zero_parts : (n : ℕ) → 0 < n → (0 / n ≡ 0) × (0 % n ≡ 0)
zero_parts n some =
    let is : 0 ≡ 0 * n + 0 = omega arith in
    (ap (λ m. m / n) is ∙ div-mul-add 0 n 0 some, ap (λ m. m % n) is ∙ mod-mul-add 0 n 0 some)

pub across_above : (h : Header) (r : Pixels) → IsBlocked h r → 0 < blocks_across h
across_above h r is = by h.cols h.side is.side_above (subst (λ n. 0 < n) (sym is.cols) is.sound.shape.cols_above)
  where
    by : (n side : ℕ) → 0 < side → 0 < n → 0 < (n + side - 1) / side
    by n side some above = grind arith

-- the first block
pub first_spot : (h : Header) (r : Pixels) → IsBlocked h r → (spot : BlockAt) → spot.row ≡ 0 → spot.col ≡ 0 → spot.d ≡ 0 → IsBlockAt h 0 spot
first_spot h r is spot row col d =
    let deep : 0 < h.depth = subst (λ n. 0 < n) (sym is.depth) is.sound.shape.depth_above in
    let wide = across_above h r is in
    let block : 0 / h.depth ≡ 0 = (zero_parts h.depth deep).0 in
    record {
      row = row ∙ (let z : 0 ≡ 0 * h.side = omega arith in z) ∙ ap (λ n. n * h.side) (sym (zero_parts (blocks_across h) wide).0) ∙ ap (λ n. n / blocks_across h * h.side) (sym block);
      col = col ∙ (let z : 0 ≡ 0 * h.side = omega arith in z) ∙ ap (λ n. n * h.side) (sym (zero_parts (blocks_across h) wide).1) ∙ ap (λ n. n % blocks_across h * h.side) (sym block);
      depth = d ∙ sym (zero_parts h.depth deep).1;
    }

pub spot_within : (h : Header) (r : Pixels) → IsBlocked h r → (k : ℕ) → k < coded_blocks h → (spot : BlockAt) → IsBlockAt h k spot → IsWithin h spot
spot_within h r is k below spot at = record {
  row = subst (λ n. n < h.rows) (sym at.row) (row_within h r is k below);
  col = subst (λ n. n < h.cols) (sym at.col) (col_within h r is k);
  depth = subst (λ n. n < h.depth) (sym at.depth) (depth_within h r is k);
}

-- ---- what stands there

pub bytes_there : (h : Header) (r : Pixels) (k : ℕ) (spot : BlockAt) → IsBlockAt h k spot → bytes_at h r spot ≡ coded_bytes h r k
bytes_there h r k spot at = (λ t. block_bytes h.kind (at.col t) h.step (block_values r (at.row t) (at.col t) h.side (at.depth t)))

pub form_there : (h : Header) (r : Pixels) (k : ℕ) (spot : BlockAt) → IsBlockAt h k spot
    → chosen_form h.kind spot.col h.step (block_values r spot.row spot.col h.side spot.d) ≡ chosen_form h.kind (block_col h k) h.step (coded_values h r k)
form_there h r k spot at = (λ t. chosen_form h.kind (at.col t) h.step (block_values r (at.row t) (at.col t) h.side (at.depth t)))

pub table_there : (h : Header) (r : Pixels) (k : ℕ) (spot : BlockAt) (b : Bool) → IsBlockAt h k spot → IsTrue b ↔ HasTableAt h r spot → IsTrue b ↔ HasTable h r k
table_there h r k spot b at is = subst (λ (form : micro.WrittenForm). IsTrue b ↔ (form ≡ micro.table)) (form_there h r k spot at) is

-- ---- what is gathered

-- no value is above the greatest of its type
pub capped_there : (h : Header) (r : Pixels) → IsBlocked h r → (spot : BlockAt) (distances : List ℕ) (ctx : BlockCtx) → ctx.kind ≡ h.kind → ctx.top ≡ type_greatest h.kind
    → map (value_above h.kind) distances ≡ values_at h r spot → All (λ v. v ≤ℤ ctx.top) (map (value_above ctx.kind) distances)
capped_there h r is spot distances ctx kind top are =
    let all : All (InRange h.kind) (map (value_above h.kind) distances) =
    subst (All (InRange h.kind)) (sym are) (subst (λ (t : PixelType). All (InRange t) (values_at h r spot)) (sym is.kind) (block_fits r is.sound spot.row spot.col h.side spot.d)) in
    subst (λ (t : PixelType). All (λ v. v ≤ℤ ctx.top) (map (value_above t) distances)) (sym kind)
    (subst (λ (t : ℤ). All (λ v. v ≤ℤ t) (map (value_above h.kind) distances)) (sym top) (λ i d low. (all i d low).1))

-- what is gathered in front
gathered : (h : Header) (r : Pixels) (spot : BlockAt) (out rest : List ℕ) (n : ℕ) → n ≡ block_count r spot.row spot.col h.side → out ≡ map (distance_of r.kind) (values_at h r spot) ++ rest
    → take n out ≡ map (distance_of r.kind) (values_at h r spot)
gathered h r spot out rest n count is =
    let long : length (map (distance_of r.kind) (values_at h r spot)) ≡ n = length-map (values_at h r spot) (distance_of r.kind) ∙ has_count r spot.row spot.col h.side spot.d ∙ sym count in
    ap (take n) is ∙ take_at (map (distance_of r.kind) (values_at h r spot)) rest n long

pub gathered_fit : (h : Header) (r : Pixels) → IsBlocked h r → (spot : BlockAt) (out rest : List ℕ) (n : ℕ) → n ≡ block_count r spot.row spot.col h.side → out ≡ map (distance_of r.kind) (values_at h r spot) ++ rest
    → All (IsDistance h.kind) (take n out)
gathered_fit h r is spot out rest n count e =
    subst (All (IsDistance h.kind)) (sym (gathered h r spot out rest n count e))
    (subst (λ (t : PixelType). All (IsDistance t) (map (distance_of r.kind) (values_at h r spot))) (sym is.kind) (all_small r.kind (values_at h r spot) (block_fits r is.sound spot.row spot.col h.side spot.d)))

pub gathered_are : (h : Header) (r : Pixels) → IsBlocked h r → (spot : BlockAt) (out rest : List ℕ) (n : ℕ) → n ≡ block_count r spot.row spot.col h.side → out ≡ map (distance_of r.kind) (values_at h r spot) ++ rest
    → map (value_above h.kind) (take n out) ≡ values_at h r spot
gathered_are h r is spot out rest n count e =
    ap (map (value_above h.kind)) (gathered h r spot out rest n count e) ∙ ap (λ (t : PixelType). map (value_above t) (map (distance_of r.kind) (values_at h r spot))) is.kind
    ∙ stand r.kind (values_at h r spot) (block_fits r is.sound spot.row spot.col h.side spot.d)
