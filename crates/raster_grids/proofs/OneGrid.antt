-- A grid has one raster.
use Rattle.std.proofs.Common.{ℕ, cond, ◌≡◌, refl, ◌*◌, ◌^◌, ◌<◌, ◌≤◌, arith, List, ◌++◌, length, get_or, drop, sym, ap, ◌∙◌, subst}
use Rattle.std.specs.Prelude.{nat_eq}
use Rattle.std.proofs.Math.Nat.{mul-le-mul_left, mul-le-mul_right}
use Rattle.std.proofs.lemmas.List.{length-map}
use Rattle.raster_cells.specs.declared.kind.PixelType.{PixelType}
use Rattle.raster_cells.specs.declared.kind.PixelType.TheVariants.{I8, U8, I16, U16, I32, U32}
use Rattle.raster_cells.specs.PixelType.{code_of}
use Rattle.raster_cells.specs.Shapes.{IsShape}
use Rattle.byteorder.specs.Endian.{little_number, little_bytes}
use Rattle.byteorder.specs.Numbers.{little_number-reads_back}
use Rattle.raster_values.specs.Raster.{Pixels, values_of, mark_of}
use Rattle.raster_cells.specs.Values.{values_bytes}
use Rattle.raster_values.proofs.OneGrid.{AllPixels, same_pixels, split_back, split_front}
use Rattle.raster_grids.specs.Grid.{grid_marks, grid_of, GridDetermines}

-- ---- the head

pub kind_of : ℕ → PixelType
kind_of n = cond (nat_eq n 0) I8 (cond (nat_eq n 1) U8 (cond (nat_eq n 2) I16 (cond (nat_eq n 3) U16 (cond (nat_eq n 4) I32 U32))))

pub kind_of-code : (kind : PixelType) → kind_of (code_of kind) ≡ kind
unfolding kind_of
kind_of-code I8 = refl
kind_of-code U8 = refl
kind_of-code I16 = refl
kind_of-code U16 = refl
kind_of-code I32 = refl
kind_of-code U32 = refl

pub rows_below : (rows cols depth : ℕ) → IsShape rows cols depth → rows < 256 ^ 4
rows_below rows cols depth h =
    let a : rows * 1 ≤ rows * cols = mul-le-mul_left rows (omega (arith, h.cols_above)) in
    let b : rows * cols * 1 ≤ rows * cols * depth = mul-le-mul_left (rows * cols) (omega (arith, h.depth_above)) in
    omega (arith, a, b, h.size)

pub cols_below : (rows cols depth : ℕ) → IsShape rows cols depth → cols < 256 ^ 4
cols_below rows cols depth h =
    let a : 1 * cols ≤ rows * cols = mul-le-mul_right cols (omega (arith, h.rows_above)) in
    let b : rows * cols * 1 ≤ rows * cols * depth = mul-le-mul_left (rows * cols) (omega (arith, h.depth_above)) in
    omega (arith, a, b, h.size)

pub depth_below : (rows cols depth : ℕ) → IsShape rows cols depth → depth < 256 ^ 4
depth_below rows cols depth h = omega (arith, h.depth_below)

-- ---- whole grids

pub grid_determines : GridDetermines
unfolding grid_of
grid_determines r s hr hs e =
    let kind : r.kind ≡ s.kind = sym (kind_of-code r.kind) ∙ ap (λ g. kind_of (get_or g 4 0)) e ∙ kind_of-code s.kind in
    let behind : Pixels → List ℕ = λ t. grid_marks t ++ values_bytes t.kind (values_of t.pixels) in
    let rows : r.rows ≡ s.rows = sym (little_number-reads_back 4 r.rows (little_bytes 4 r.cols ++ (little_bytes 4 r.depth ++ behind r)) (rows_below r.rows r.cols r.depth hr.shape))
    ∙ ap (λ g. little_number 4 (drop 5 g)) e ∙ little_number-reads_back 4 s.rows (little_bytes 4 s.cols ++ (little_bytes 4 s.depth ++ behind s)) (rows_below s.rows s.cols s.depth hs.shape) in
    let cols : r.cols ≡ s.cols = sym (little_number-reads_back 4 r.cols (little_bytes 4 r.depth ++ behind r) (cols_below r.rows r.cols r.depth hr.shape))
    ∙ ap (λ g. little_number 4 (drop 9 g)) e ∙ little_number-reads_back 4 s.cols (little_bytes 4 s.depth ++ behind s) (cols_below s.rows s.cols s.depth hs.shape) in
    let depth : r.depth ≡ s.depth = sym (little_number-reads_back 4 r.depth (behind r) (depth_below r.rows r.cols r.depth hr.shape))
    ∙ ap (λ g. little_number 4 (drop 13 g)) e ∙ little_number-reads_back 4 s.depth (behind s) (depth_below s.rows s.cols s.depth hs.shape) in
    let tails : behind r ≡ behind s = ap (drop 17) e in
    let lr : length (grid_marks r) ≡ r.rows * r.cols = length-map r.pixels mark_of ∙ hr.places in
    let ls : length (grid_marks s) ≡ r.rows * r.cols = length-map s.pixels mark_of ∙ hs.places ∙ ap (λ n. n * s.cols) (sym rows) ∙ ap (λ n. r.rows * n) (sym cols) in
    let marks : grid_marks r ≡ grid_marks s = split_front _ _ (values_bytes r.kind (values_of r.pixels)) (values_bytes s.kind (values_of s.pixels)) (r.rows * r.cols) lr ls tails in
    let bytes : values_bytes r.kind (values_of r.pixels) ≡ values_bytes s.kind (values_of s.pixels) = split_back (grid_marks r) (grid_marks s) _ _ (r.rows * r.cols) lr ls tails in
    let each : AllPixels r.kind r.depth s.pixels = subst (λ k. AllPixels k r.depth s.pixels) (sym kind) (subst (λ d. AllPixels s.kind d s.pixels) (sym depth) hs.each) in
    let pixels : r.pixels ≡ s.pixels = same_pixels r.kind r.depth r.pixels s.pixels hr.each each marks (bytes ∙ ap (λ k. values_bytes k (values_of s.pixels)) (sym kind)) in
    λ i. record { kind = kind i; rows = rows i; cols = cols i; depth = depth i; pixels = pixels i }
