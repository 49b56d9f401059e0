-- Steps of writing a block.
use Rattle.std.proofs.Common.{◌≡◌, ℕ, ◌+◌, ◌-◌, ◌<◌, ◌≤◌, ℤ, List, [], ◌∷◌, ◌++◌, length, map, drop, take, pos, ◌≤ℤ◌, refl, sym, ap, subst, ◌∙◌, arith, append_assoc, length-append}
use Rattle.std.specs.Prelude.{All, set}
use Rattle.std.proofs.lemmas.List.{drop-drop, drop_at, take_at, take_rest}
use mir.Syntax.{w64}
use mir.Val.{of_z, to_z}
use Rattle.raster_cells.specs.Distance.{value_above}
use Rattle.micro_block.specs.declared.spreading.Spread.{Spread}
use Rattle.micro_block.specs.inside.Stepping.{IsSpread, steps_above, values_above}
use Rattle.micro_block.proofs.Above.{above_in_range}
use Rattle.micro_block.proofs.Range.{reread}
use Rattle.raster_cells.specs.declared.kind.PixelType.{PixelType}
use Rattle.raster_cells.specs.PixelType.{InRange, bytes_of}
use Rattle.raster_cells.proofs.Pack.{length-value_bytes}
use Rattle.bit_stuff.specs.Simple.{simple_bytes}
use Rattle.bit_stuff.proofs.Buffers.{end_written}
use Rattle.lut_stuff.specs.Tables.{table_bytes}
use Rattle.lut_stuff.proofs.Tabled.{cons_written}
use borrow.Rule.Slice.PartMut.{put_mid}
use Rattle.micro_block.specs.ChosenBlock as chosen_block
use Rattle.micro_block.specs.ChosenBlock.{least_value, narrow_code, narrow_type, offset_bytes, tag_byte, written_form_bytes, block_bytes, kept}
use Rattle.micro_block.specs.Near.{quantised}
use Rattle.micro_block.specs.Block.{IsBlock}
use Rattle.micro_block.specs.Frame.{AreWritable, frame_of}
use Rattle.micro_block.specs.declared.context.BlockCtx.{BlockCtx}
use Rattle.micro_block.proofs.BlockSteps.{step_small}
use Rattle.micro_block.proofs.Written.{written_stands}

-- a tag, and what is written over the front behind it
pub front_written : (t : ℕ) (front old new : List ℕ) (b : ℕ) → 0 < length old
    → new ≡ front ++ drop b (take (length (set old 0 t) - 1) (drop 1 (set old 0 t)))
    → put_mid 1 (length (set old 0 t) - 1) (set old 0 t) new ≡ t ∷ (front ++ drop (1 + b) old)
front_written t front [] new b some e = absurd (omega (arith, some))
front_written t front (y ∷ ys) new b some e =
    cons_written t (t ∷ ys) (y ∷ ys) new (length (t ∷ ys) - 1) some refl (omega arith)
    ∙ ap (λ (u : List ℕ). t ∷ u) (e ∙ ap (λ (u : List ℕ). front ++ drop b u) (take_rest (t ∷ ys) 1) ∙ ap (λ (u : List ℕ). front ++ u) (drop-drop b 1 (y ∷ ys)))

-- and what is written over the rest
pub rest_written : (t : ℕ) (front rest out new list : List ℕ) (used : ℕ) → used ≡ 1 + length front → out ≡ t ∷ (front ++ rest) → new ≡ list
    → put_mid used (length out - used) out new ≡ t ∷ (front ++ list)
rest_written t front rest out new list used is e same =
    ap (λ (xs : List ℕ). put_mid used (length xs - used) xs new) e
    ∙ end_written (t ∷ front) rest new used (length (t ∷ (front ++ rest)) - used) (omega (arith, is)) (omega (arith, length-append front rest, is))
    ∙ ap (λ (u : List ℕ). t ∷ (front ++ u)) same

pub offset_len : (kind : PixelType) (v : ℤ) → length (offset_bytes kind v) ≡ bytes_of (narrow_type kind v)
unfolding offset_bytes
offset_len kind v = length-value_bytes (narrow_type kind v) v

pub listed_len : (t : ℕ) (front list : List ℕ) → length (t ∷ (front ++ list)) ≡ 1 + (length front + length list)
listed_len t front list = omega (arith, length-append front list)

-- the forms by a number that is the least value
pub constant_is : (kind : PixelType) (col step : ℕ) (values : List ℤ) (m : ℤ) → m ≡ least_value values
    → tag_byte col 3 (narrow_code kind m) ∷ offset_bytes kind m ≡ written_form_bytes kind col step values chosen_block.constant
unfolding written_form_bytes
constant_is kind col step values m e = ap (λ (u : ℤ). tag_byte col 3 (narrow_code kind u) ∷ offset_bytes kind u) e

pub simple_is : (kind : PixelType) (col step : ℕ) (values : List ℤ) (m : ℤ) → m ≡ least_value values
    → tag_byte col 1 (narrow_code kind m) ∷ (offset_bytes kind m ++ simple_bytes (map (quantised step m) values)) ≡ written_form_bytes kind col step values chosen_block.simple
unfolding written_form_bytes
simple_is kind col step values m e = ap (λ (u : ℤ). tag_byte col 1 (narrow_code kind u) ∷ (offset_bytes kind u ++ simple_bytes (map (quantised step u) values))) e

pub table_is : (kind : PixelType) (col step : ℕ) (values : List ℤ) (m : ℤ) → m ≡ least_value values
    → tag_byte col 1 (narrow_code kind m) ∷ (offset_bytes kind m ++ table_bytes (map (quantised step m) values)) ≡ written_form_bytes kind col step values chosen_block.table
unfolding written_form_bytes
table_is kind col step values m e = ap (λ (u : ℤ). tag_byte col 1 (narrow_code kind u) ∷ (offset_bytes kind u ++ table_bytes (map (quantised step u) values))) e

-- what is asked of the values, by the context
pub writable : (ctx : BlockCtx) (values : List ℤ) → length values ≤ 256 → All (InRange ctx.kind) values → All (λ v. v ≤ℤ ctx.top) values → AreWritable (frame_of ctx (length values)) values
writable ctx values few fits below =
    record { counted = refl; few = few; step = (let s = step_small ctx.step ctx.twice_error in omega (arith, s)); in_range = fits; below = λ i within. below i (pos 0) within }

-- the written block stands, whatever is behind it
pub written_block : (ctx : BlockCtx) (values : List ℤ) (rest out : List ℕ) (n : ℕ) → AreWritable (frame_of ctx (length values)) values → length (block_bytes ctx.kind ctx.col ctx.step values) ≡ n → out ≡ block_bytes ctx.kind ctx.col ctx.step values ++ rest
    → IsBlock (frame_of ctx (length values)) (take n out) (map (kept ctx.kind ctx.col ctx.step ctx.top values) values)
written_block ctx values rest out n w size is =
    subst (λ (bytes : List ℕ). IsBlock (frame_of ctx (length values)) bytes (map (kept ctx.kind ctx.col ctx.step ctx.top values) values))
    (sym (ap (take n) is ∙ take_at (block_bytes ctx.kind ctx.col ctx.step values) rest n size))
    (written_stands (frame_of ctx (length values)) values w)

-- ---- forms of distances

-- the numbers of steps are those of the values
same_steps : (kind : PixelType) (step : ℕ) (ds : List ℕ) (s : Spread) (k : ℤ) → IsSpread kind step ds s → k ≡ least_value (values_above kind ds) → map (steps_above step s.least) ds ≡ map (quantised step k) (values_above kind ds)
same_steps kind step ds s k is e = is.same ∙ ap (λ (m : ℤ). map (quantised step m) (values_above kind ds)) (sym e)

pub simple_above : (kind : PixelType) (col step : ℕ) (ds : List ℕ) (s : Spread) (k : ℤ) → IsSpread kind step ds s → k ≡ least_value (values_above kind ds)
    → tag_byte col 1 (narrow_code kind k) ∷ (offset_bytes kind k ++ simple_bytes (map (steps_above step s.least) ds)) ≡ written_form_bytes kind col step (values_above kind ds) chosen_block.simple
simple_above kind col step ds s k is e =
    ap (λ (qs : List ℕ). tag_byte col 1 (narrow_code kind k) ∷ (offset_bytes kind k ++ simple_bytes qs)) (same_steps kind step ds s k is e) ∙ simple_is kind col step (values_above kind ds) k e

pub table_above : (kind : PixelType) (col step : ℕ) (ds : List ℕ) (s : Spread) (k : ℤ) → IsSpread kind step ds s → k ≡ least_value (values_above kind ds)
    → tag_byte col 1 (narrow_code kind k) ∷ (offset_bytes kind k ++ table_bytes (map (steps_above step s.least) ds)) ≡ written_form_bytes kind col step (values_above kind ds) chosen_block.table
table_above kind col step ds s k is e =
    ap (λ (qs : List ℕ). tag_byte col 1 (narrow_code kind k) ∷ (offset_bytes kind k ++ table_bytes qs)) (same_steps kind step ds s k is e) ∙ table_is kind col step (values_above kind ds) k e

-- the least value, from the least distance, as the code reads it again
pub least_again : (kind : PixelType) (step : ℕ) (ds : List ℕ) (s : Spread) (z : ℤ) → IsSpread kind step ds s → z ≡ value_above kind s.least → to_z w64 (of_z w64 z) ≡ least_value (values_above kind ds)
least_again kind step ds s z is e = ap (λ (y : ℤ). to_z w64 (of_z w64 y)) e ∙ reread kind (value_above kind s.least) (above_in_range kind s.least is.least_fits) ∙ is.least_is

pub least_fits_again : (kind : PixelType) (step : ℕ) (ds : List ℕ) (s : Spread) (z : ℤ) → IsSpread kind step ds s → z ≡ value_above kind s.least → InRange kind (to_z w64 (of_z w64 z))
least_fits_again kind step ds s z is e =
    subst (λ (y : ℤ). InRange kind y) (sym (ap (λ (y : ℤ). to_z w64 (of_z w64 y)) e ∙ reread kind (value_above kind s.least) (above_in_range kind s.least is.least_fits))) (above_in_range kind s.least is.least_fits)

pub simple_above_len : (kind : PixelType) (col step : ℕ) (ds : List ℕ) (s : Spread) (k : ℤ) → IsSpread kind step ds s → k ≡ least_value (values_above kind ds)
    → length (written_form_bytes kind col step (values_above kind ds) chosen_block.simple) ≡ 1 + (bytes_of (narrow_type kind k) + length (simple_bytes (map (steps_above step s.least) ds)))
simple_above_len kind col step ds s k is e =
    ap length (sym (simple_above kind col step ds s k is e))
    ∙ listed_len (tag_byte col 1 (narrow_code kind k)) (offset_bytes kind k) (simple_bytes (map (steps_above step s.least) ds))
    ∙ ap (λ (n : ℕ). 1 + (n + length (simple_bytes (map (steps_above step s.least) ds)))) (offset_len kind k)

pub table_above_len : (kind : PixelType) (col step : ℕ) (ds : List ℕ) (s : Spread) (k : ℤ) → IsSpread kind step ds s → k ≡ least_value (values_above kind ds)
    → length (written_form_bytes kind col step (values_above kind ds) chosen_block.table) ≡ 1 + (bytes_of (narrow_type kind k) + length (table_bytes (map (steps_above step s.least) ds)))
table_above_len kind col step ds s k is e =
    ap length (sym (table_above kind col step ds s k is e))
    ∙ listed_len (tag_byte col 1 (narrow_code kind k)) (offset_bytes kind k) (table_bytes (map (steps_above step s.least) ds))
    ∙ ap (λ (n : ℕ). 1 + (n + length (table_bytes (map (steps_above step s.least) ds)))) (offset_len kind k)

-- a tag, a front and a list are written over the front, and what is behind stays
pub rest_over : (t : ℕ) (front rest out new list : List ℕ) (used r : ℕ) → used ≡ 1 + length front → out ≡ t ∷ (front ++ rest) → new ≡ list ++ drop r (take (length out - used) (drop used out))
    → put_mid used (length out - used) out new ≡ (t ∷ (front ++ list)) ++ drop r rest
rest_over t front rest out new list used r is e same =
    rest_written t front rest out new (list ++ drop r rest) used is e (same ∙ ap (λ (u : List ℕ). list ++ drop r u) behind)
    ∙ ap (λ (u : List ℕ). t ∷ u) (sym (append_assoc front list (drop r rest)))
  where
    behind : take (length out - used) (drop used out) ≡ rest
    behind = take_rest out used ∙ ap (drop used) e ∙ drop_at (t ∷ front) rest used (omega (arith, is))
