-- How many bytes bands and their grids have.
use Rattle.std.proofs.Common.{[], ◌≡◌, ℕ, ◌+◌, ◌*◌, List, length, ap, ◌∙◌, length-append, suc, ◌∷◌, sym, ◌++◌, arith, ◌≤◌, take}
use Rattle.std.specs.List.{sum_by}
use Rattle.std.proofs.lemmas.List.Sums.{sum_by-cons, sum_by-append, count_by-le-length}
use Rattle.std.specs.Prelude.{slice_get, Some, is_some, All}
use Rattle.std.proofs.lemmas.List.{take_more}
use Rattle.std.proofs.lemmas.Option.{get_or_from_slice_get, slice_get_within}
use Rattle.std.proofs.Math.Nat.{mul-le-mul_left, mul-le-mul_right, add-mul, mul_left_comm}
use Rattle.std.proofs.lemmas.List.Elements.{All-head, All-tail}
use Rattle.raster_cells.specs.PixelType.{bytes_of}
use Rattle.raster_values.specs.Raster.{Pixels, valid_count, IsRaster}
use Rattle.raster_values.specs.Flat.{marks_of}
use Rattle.raster_values.proofs.Deep.{length-values_of, raster_deep}
use Rattle.first_fault.specs.Faults.{Numbered}
use Rattle.raster_cells.proofs.Spelled.{few_bytes}
use Rattle.raster_values.specs.Bands.{IsLike, AreBands}
use Rattle.raster_grids.specs.declared.reading.Head.{Head}
use Rattle.raster_grids.specs.BandsGrid.{IsBandGrid, IsBandsGrid, of_one, of_more}
use Rattle.raster_grids.specs.inside.Sizes.{band_bytes}
use Rattle.raster_grids.proofs.GridParts.{marks_long}
use Rattle.raster_grids.specs.ReadGrid.{IsGrid}

-- the marks and the values of a raster
pub band_long : (h : Head) (bytes : List ℕ) (r : Pixels) → IsBandGrid h bytes r → length bytes ≡ band_bytes r
band_long h bytes r b =
    let marks : length b.marks ≡ r.rows * r.cols = marks_long (r.rows * r.cols) b.marks (marks_of r) b.marks_are in
    let values : length b.values ≡ valid_count r * r.depth * bytes_of r.kind = b.values_are.size ∙ ap (λ n. n * bytes_of r.kind) (length-values_of r.depth r.pixels (raster_deep r b.raster)) in
    ap length b.joined ∙ length-append b.marks b.values ∙ (λ i. marks i + values i)

bands_long : (h : Head) (k : ℕ) (bytes : List ℕ) (bands : List Pixels) → Numbered (λ k. IsBandGrid h) k bytes bands → length bytes ≡ sum_by band_bytes bands
bands_long h k bytes [] stand = ap length stand
bands_long h k bytes (r ∷ more) (front, (rest, (joined, (stands, later)))) =
    let one = band_long h front r stands in
    let others = bands_long h (suc k) rest more later in
    ap length joined ∙ length-append front rest ∙ (λ i. one i + others i) ∙ sym (sum_by-cons band_bytes r more)

-- a head of 17 bytes, and these
pub grid_long : (bytes : List ℕ) (r : Pixels) → IsGrid bytes r → length bytes ≡ 17 + band_bytes r
grid_long bytes r g =
    let marks : length g.marks ≡ r.rows * r.cols = marks_long (r.rows * r.cols) g.marks (marks_of r) g.marks_are in
    let values : length g.values ≡ valid_count r * r.depth * bytes_of r.kind = g.values_are.size ∙ ap (λ n. n * bytes_of r.kind) (length-values_of r.depth r.pixels (raster_deep r g.raster)) in
    let all = ap length g.joined in
    omega (arith, all, length-append g.head (g.marks ++ g.values), length-append g.marks g.values, g.head_of.size, marks, values)

-- a grid has a head of 17 bytes, or of 17 and 4, and its bands
pub bands_grid_long : (grid : List ℕ) (bands : List Pixels) (n : ℕ) → (length bands ≡ 1 → n ≡ 17) → (2 ≤ length bands → n ≡ 21) → IsBandsGrid grid bands → n + sum_by band_bytes bands ≡ length grid
bands_grid_long grid bands n one two (of_one r is g) =
    let all : sum_by band_bytes bands ≡ band_bytes r + 0 = ap (sum_by band_bytes) is ∙ sum_by-cons band_bytes r [] in
    let front : n ≡ 17 = one (ap length is) in
    let size = grid_long grid r g in
    omega (arith, all, front, size)
bands_grid_long grid bands n one two (of_more h m head count behind joined stands number all) =
    let front : n ≡ 21 = two (omega (arith, all.0, number.least)) in
    let size = bands_long h 0 behind bands all.1 in
    let whole = ap length joined in
    omega (arith, front, size, whole, length-append head (count ++ behind), length-append count behind, stands.size, number.size)

-- one band more
pub sizes_more : (bands : List Pixels) (i : ℕ) (r : Pixels) → slice_get bands i ≡ Some r → sum_by band_bytes (take (i + 1) bands) ≡ sum_by band_bytes (take i bands) + band_bytes r
sizes_more bands i r is =
    let one : sum_by band_bytes (r ∷ []) ≡ band_bytes r + 0 = sum_by-cons band_bytes r [] in
    let more : sum_by band_bytes (take (i + 1) bands) ≡ sum_by band_bytes (take i bands) + sum_by band_bytes (r ∷ []) =
    ap (sum_by band_bytes) (take_more bands i r (slice_get_within bands i r is) ∙ ap (λ (s : Pixels). take i bands ++ s ∷ []) (get_or_from_slice_get bands i r r is)) ∙ sum_by-append band_bytes (take i bands) (r ∷ []) in
    omega (arith, one, more)

-- ---- bands are small

band_small : (r : Pixels) → IsRaster r → valid_count r ≤ r.rows * r.cols → band_bytes r ≤ 5 * (r.rows * r.cols * r.depth)
band_small r h within =
    let area : r.rows * r.cols * 1 ≤ r.rows * r.cols * r.depth = mul-le-mul_left (r.rows * r.cols) (omega (arith, h.shape.depth_above)) in
    let values : valid_count r * r.depth ≤ r.rows * r.cols * r.depth = mul-le-mul_right r.depth within in
    let bytes : valid_count r * r.depth * bytes_of r.kind ≤ valid_count r * r.depth * 4 = mul-le-mul_left (valid_count r * r.depth) (few_bytes r.kind) in
    omega (arith, area, values, bytes)

valid_few : (r : Pixels) → IsRaster r → valid_count r ≤ r.rows * r.cols
valid_few r h = omega (arith, count_by-le-length is_some r.pixels, h.places)

all_small : (first : Pixels) (bands : List Pixels) → All IsRaster bands → All (IsLike first) bands → sum_by band_bytes bands ≤ length bands * (5 * (first.rows * first.cols * first.depth))
all_small first [] sound like = omega arith
all_small first (r ∷ more) sound like =
    let h = All-head IsRaster r more sound in
    let shape = All-head (IsLike first) r more like in
    let same : r.rows * r.cols * r.depth ≡ first.rows * first.cols * first.depth = λ i. shape.rows i * shape.cols i * shape.depth i in
    let one = band_small r h (valid_few r h) in
    let others = all_small first more (All-tail IsRaster r more sound) (All-tail (IsLike first) r more like) in
    let step : sum_by band_bytes (r ∷ more) ≡ band_bytes r + sum_by band_bytes more = sum_by-cons band_bytes r more in
    let size = 5 * (first.rows * first.cols * first.depth) in
    let split : (1 + length more) * size ≡ 1 * size + length more * size = add-mul 1 (length more) size in
    let count : length (r ∷ more) * size ≡ (1 + length more) * size = ap (λ n. n * size) (let e : length (r ∷ more) ≡ 1 + length more = omega arith in e) in
    omega (arith, one, others, step, same, split, count)

pub bands_small : (bands : List Pixels) → AreBands bands → sum_by band_bytes bands ≤ 83886080
bands_small [] h = absurd (let some = h.0 in let no : ⊥ = omega (arith, some) in no)
bands_small (r ∷ more) h =
    let like = h.1.like in
    let sound = h.1.sound in
    let one = band_small r (All-head IsRaster r more sound) (valid_few r (All-head IsRaster r more sound)) in
    let others = all_small r more (All-tail IsRaster r more sound) like.0 in
    let step : sum_by band_bytes (r ∷ more) ≡ band_bytes r + sum_by band_bytes more = sum_by-cons band_bytes r more in
    let p = r.rows * r.cols * r.depth in
    let split : (1 + length more) * p ≡ p + length more * p = add-mul 1 (length more) p ∙ ap (λ n. n + length more * p) (let e : 1 * p ≡ p = omega arith in e) in
    let fives : length more * (5 * p) ≡ 5 * (length more * p) = mul_left_comm (length more) 5 p in
    omega (arith, one, others, step, like.1, split, fives)
