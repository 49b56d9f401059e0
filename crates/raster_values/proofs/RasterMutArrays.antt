-- Rasters that lie in a caller's arrays.
use Rattle.std.proofs.Common.{◌≡◌, ℕ, ◌+◌, ◌*◌, ◌≤◌, List, length, arith, ◌-◌, ◌++◌, take, drop, ap, ◌∙◌, subst, sym, ◌≢◌, ◌<◌, Bool, false, replicate, get_or, ⊎_elim, ◌/◌}
use Rattle.std.proofs.Math.Nat.{add-mul, mul-le-mul_right, mul-le-mul_left}
use Rattle.std.specs.Prelude.{ℤ, pos}
use Rattle.std.proofs.lemmas.List.{take_rest, length-drop, get_or-replicate}
use Rattle.std.proofs.lemmas.Bool.{cases_eq, false≢true}
use Rattle.std.specs.List.{count_by}
use Rattle.std.proofs.lemmas.Nat.{mul-add-lt}
use borrow.Rule.Slice.PartMut.{put_mid}
use Rattle.raster_cells.specs.declared.kind.PixelType.{PixelType}
use Rattle.raster_cells.specs.PixelType.{bytes_of, value_of}
use Rattle.raster_cells.specs.CellList.{values_in}
use Rattle.raster_cells.specs.LentBytes.{AreValueBytes}
use Rattle.raster_cells.proofs.CellRuns.{length-values_in, run_put, with_run}
use Rattle.raster_cells.proofs.ValueBytes.{value_bytes_long}
use Rattle.raster_cells.specs.Values.{values_bytes}
use Rattle.raster_cells.specs.Masks.{marks_in}
use Rattle.raster_cells.specs.LentMask.{AreBits}
use Rattle.raster_cells.specs.Shapes.{IsShape}
use Rattle.raster_cells.proofs.MaskCounts.{all_set}
use Rattle.raster_cells.proofs.MaskBits.{length-marks_in}
use Rattle.byteorder.specs.Endian.{little_number}
use Rattle.raster_cells.proofs.Spelled.{value_in-at}
use Rattle.raster_values.specs.RasterMut.{inside_of, lent_pixels}
use Rattle.raster_values.specs.inside.Parts.{AreParts, parts_of}
use Rattle.raster_values.specs.View.{seen}
use Rattle.raster_values.specs.declared.rasters.raster_mut.RasterMut.{RasterMut}
use Rattle.raster_values.proofs.FlatViews.{keeps_itself, value_flat}
use Rattle.raster_values.proofs.Views.{KeepsValues, count-pixels_of, sound}
use Rattle.raster_values.specs.Raster.{valid_count, IsRaster}
use Rattle.raster_values.specs.Flat.{value_in, all_values}
use Rattle.raster_values.proofs.AllCells.{all_inside}

-- ---- bytes of values

-- where a run of values lies
pub run_room : (kind : PixelType) (count at n from : ℕ) (bytes : List ℕ) → AreValueBytes kind count bytes → at + n ≤ length (values_in kind count bytes) → from ≡ at * bytes_of kind → from + n * bytes_of kind ≤ length bytes
run_room kind count at n from bytes h within start =
    let s = bytes_of kind in
    let up : (at + n) * s ≤ count * s = mul-le-mul_right s (omega (arith, within, length-values_in kind count bytes)) in
    omega (arith, up, add-mul at n s, start, value_bytes_long kind count bytes h)

-- a run of values laid over others
pub run_laid : (kind : PixelType) (count at from : ℕ) (run : List ℤ) (old out : List ℕ) → AreValueBytes kind count old → at + length run ≤ length (values_in kind count old) → from ≡ at * bytes_of kind
    → out ≡ values_bytes kind run ++ drop (length run * bytes_of kind) (take (length old - from) (drop from old)) → length out ≡ length (take (length old - from) (drop from old))
    → put_mid from (length old - from) old out ≡ values_bytes kind (with_run (values_in kind count old) at run)
run_laid kind count at from run old out h within start wrote long =
    let s = bytes_of kind in
    let room = run_room kind count at (length run) from old h within start in
    ap (λ n. put_mid n (length old - n) old out) start
    ∙ run_put kind (values_in kind count old) run old out at within h.bytes_are
    (subst (λ n. out ≡ values_bytes kind run ++ drop (length run * s) (take (length old - n) (drop n old))) start wrote)
    (let e : at * s ≤ length old = omega (arith, start, room) in e)
    (let e : length out ≡ length old - at * s = omega (arith, long, ap length (take_rest old from), length-drop from old, start) in e)

-- ---- arrays before and after a call

-- other values of the valid pixels leave a raster's arrays
pub still_inside : (t : RasterMut) (bytes : List ℕ) → KeepsValues (inside_of t) (inside_of t).marks (values_in t.kind t.count bytes) → AreParts t.kind t.rows t.cols t.depth t.count t.mask.now bytes
still_inside t bytes keeps = record { shape = t.inside.shape; marks = t.inside.marks; values = keeps.values; in_range = keeps.in_range; zeros = keeps.zeros }

-- and a raster
pub still_raster : (t : RasterMut) (bytes : List ℕ) → KeepsValues (inside_of t) (inside_of t).marks (values_in t.kind t.count bytes) → IsRaster (seen (parts_of t.kind t.rows t.cols t.depth t.count t.mask.now bytes))
still_raster t bytes keeps = sound (parts_of t.kind t.rows t.cols t.depth t.count t.mask.now bytes) (still_inside t bytes keeps)

places_few : (rows cols depth : ℕ) → IsShape rows cols depth → rows * cols ≤ 16777216
places_few rows cols depth h =
    let up : rows * cols * 1 ≤ rows * cols * depth = mul-le-mul_left (rows * cols) h.depth_above in
    omega (arith, up, h.size)

-- the value of a pixel that is not marked, where all values are 0 but where every pixel is marked
off_zero : (ms : List Bool) (vs : List ℤ) (depth k d : ℕ) → (count_by (λ m. m) ms ≢ length ms → vs ≡ replicate (length ms * depth) (pos 0)) → k < length ms → d < depth → get_or ms k false ≡ false → get_or vs (k * depth + d) (pos 0) ≡ pos 0
off_zero ms vs depth k d zeros below less off =
    ⊎_elim
    (λ (full : count_by (λ m. m) ms ≡ length ms). absurd (false≢true (sym off ∙ all_set ms k full below)))
    (λ (some : count_by (λ m. m) ms ≢ length ms).
    ap (λ xs. get_or xs (k * depth + d) (pos 0)) (zeros some) ∙ get_or-replicate (length ms * depth) (k * depth + d) (pos 0) (pos 0) (let e : k * depth + d < length ms * depth = omega (arith, mul-add-lt k depth d (length ms) below less) in e))
    (cases_eq (count_by (λ m. m) ms) (length ms))

-- what holds of a raster's arrays
pub record Holds (kind : PixelType) (rows cols depth count valid : ℕ) (mask values : List ℕ) : Type 0 where
  pub inside : AreParts kind rows cols depth count mask values
  pub bits : AreBits (rows * cols) valid mask
  pub cells : AreValueBytes kind count values

-- arrays of a shape of which the values of invalid pixels are 0
pub made : (kind : PixelType) (rows cols depth count valid : ℕ) (mask values : List ℕ) (ms : List Bool) → IsShape rows cols depth → length mask ≡ (rows * cols + 7) / 8 → valid ≡ count_by (λ m. m) ms → ms ≡ marks_in (rows * cols) mask
    → count ≡ rows * cols * depth → AreValueBytes kind (length ms * depth) values
    → (count_by (λ m. m) ms ≢ length ms → values_in kind (length ms * depth) values ≡ replicate (length ms * depth) (pos 0)) → Holds kind rows cols depth count valid mask values
made kind rows cols depth count valid mask values ms shape size counted marks many cells zeros =
    let long : length ms ≡ rows * cols = ap length marks ∙ length-marks_in (rows * cols) mask in
    let same : length ms * depth ≡ count = ap (λ n. n * depth) long ∙ sym many in
    let are : AreValueBytes kind count values = subst (λ m. AreValueBytes kind m values) same cells in
    let zero : (k d : ℕ) → k < length ms → d < depth → get_or ms k false ≡ false → get_or (values_in kind count values) (k * depth + d) (pos 0) ≡ pos 0 = λ k d below less off.
    ap (λ m. get_or (values_in kind m values) (k * depth + d) (pos 0)) (sym same) ∙ off_zero ms (values_in kind (length ms * depth) values) depth k d zeros below less off in
    record {
      inside = record {
        shape = shape;
        marks = length-marks_in (rows * cols) mask;
        values = length-values_in kind count values ∙ many;
        in_range = are.in_range;
        zeros = λ k d below less off. zero k d (omega (arith, below, ap length marks)) less (ap (λ (bs : List Bool). get_or bs k false) marks ∙ off);
      };
      bits = record {
        few = places_few rows cols depth shape;
        size = size;
        counted = counted ∙ ap (count_by (λ m. m)) marks;
      };
      cells = are;
    }

-- how many pixels are valid
valid_marks : (kind : PixelType) (rows cols depth count : ℕ) (mask values : List ℕ) (ms : List Bool) → ms ≡ marks_in (rows * cols) mask → valid_count (seen (parts_of kind rows cols depth count mask values)) ≡ count_by (λ m. m) ms
valid_marks kind rows cols depth count mask values ms marks = count-pixels_of depth (marks_in (rows * cols) mask) (values_in kind count values) ∙ ap (count_by (λ m. m)) (sym marks)

-- where every pixel is valid each has what stood there
pub left_there : (kind : PixelType) (rows cols depth count : ℕ) (mask values : List ℕ) (ms : List Bool) (old : List ℕ) → AreParts kind rows cols depth count mask values → ms ≡ marks_in (rows * cols) mask
    → (count_by (λ m. m) ms ≡ length ms → values ≡ old) → valid_count (seen (parts_of kind rows cols depth count mask values)) ≡ rows * cols
    → (k d : ℕ) → k < rows * cols → d < depth → value_in (seen (parts_of kind rows cols depth count mask values)) d k ≡ value_of kind (little_number (bytes_of kind) (drop ((k * depth + d) * bytes_of kind) old))
left_there kind rows cols depth count mask values ms old h marks whole all k d below less =
    let a = parts_of kind rows cols depth count mask values in
    let long : length ms ≡ rows * cols = ap length marks ∙ length-marks_in (rows * cols) mask in
    let inner : k * depth + d < count = omega (arith, mul-add-lt k depth d (rows * cols) below less, h.values, length-values_in kind count values) in
    value_flat a a.values.values k d (keeps_itself a h) (omega (arith, below, h.marks)) less
    ∙ ap (λ bytes. get_or (values_in kind count bytes) (k * depth + d) (pos 0)) (whole (sym (valid_marks kind rows cols depth count mask values ms marks) ∙ all ∙ sym long))
    ∙ value_in-at kind count old (k * depth + d) inner

-- where not every pixel is valid all values are 0
pub zeros_there : (kind : PixelType) (rows cols depth count : ℕ) (mask values : List ℕ) (ms : List Bool) → AreParts kind rows cols depth count mask values → ms ≡ marks_in (rows * cols) mask → count ≡ rows * cols * depth
    → (count_by (λ m. m) ms ≢ length ms → values_in kind (length ms * depth) values ≡ replicate (length ms * depth) (pos 0)) → valid_count (seen (parts_of kind rows cols depth count mask values)) ≢ rows * cols
    → (k d : ℕ) → k < rows * cols → d < depth → value_in (seen (parts_of kind rows cols depth count mask values)) d k ≡ pos 0
zeros_there kind rows cols depth count mask values ms h marks many zeros some k d below less =
    let a = parts_of kind rows cols depth count mask values in
    let long : length ms ≡ rows * cols = ap length marks ∙ length-marks_in (rows * cols) mask in
    let same : length ms * depth ≡ count = ap (λ n. n * depth) long ∙ sym many in
    let here : k < length ms = omega (arith, below, long) in
    value_flat a a.values.values k d (keeps_itself a h) (omega (arith, below, h.marks)) less
    ∙ ap (λ m. get_or (values_in kind m values) (k * depth + d) (pos 0)) (sym same)
    ∙ ap (λ xs. get_or xs (k * depth + d) (pos 0)) (zeros (λ full. some (valid_marks kind rows cols depth count mask values ms marks ∙ full ∙ long)))
    ∙ get_or-replicate (length ms * depth) (k * depth + d) (pos 0) (pos 0) (let e : k * depth + d < length ms * depth = omega (arith, mul-add-lt k depth d (length ms) here less) in e)

-- the array holds the bytes of all values
pub lent_bytes : (t : RasterMut) → t.values.now ≡ values_bytes (lent_pixels t).kind (all_values (lent_pixels t))
lent_bytes t = t.cells.bytes_are ∙ ap (values_bytes t.kind) (sym (all_inside (inside_of t) t.inside))

pub lent_raster : (t : RasterMut) → IsRaster (lent_pixels t)
lent_raster t = sound (inside_of t) t.inside
