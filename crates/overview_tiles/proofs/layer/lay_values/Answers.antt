use Rattle.std.proofs.Common.{◌≡◌, ◌+◌, ◌*◌, ◌/◌, ◌^◌, ◌≤◌, ◌<◌, ℕ, length, get_or, map, ap, sym, subst, ◌∙◌, arith}
use Rattle.std.specs.Prelude.{pos}
use Rattle.std.proofs.lemmas.Int.{ints}
use Rattle.std.proofs.lemmas.Nat.{row_fits}
use Rattle.std.proofs.lemmas.List.{length-map}
use Rattle.std.proofs.Math.Nat.{mul-le-mul_right}
use Rattle.raster_cells.specs.CellList.{CellList}
use Rattle.raster_values.specs.declared.rasters.raster.Raster.TheInside.{Inside}
use Rattle.raster_values.specs.Raster.{Pixels}
use Rattle.raster_values.specs.Flat.{marks_of, value_in}
use Rattle.raster_values.specs.View.{AreVectors, raster_of}
use Rattle.raster_values.proofs.FlatViews.{inside_vectors, keeps_itself, value_flat}
use Rattle.overview_tiles.specs.declared.layer.Frame.{Frame}
use Rattle.overview_tiles.specs.declared.values.Piece.{Piece}
use Rattle.overview_tiles.specs.inside.Lays.{IsPlaced}
use Rattle.overview_tiles.specs.inside.Pieces.{CanAdd}
use Rattle.overview_tiles.specs.inside.Comes.{IsWithin, piece_amount}
use Rattle.overview_tiles.proofs.Steps.{cols_few, depths_all, depths_more, depths_none, place_back, place_few, places_few, total_below, value_within}
use Rattle.overview_tiles.proofs.layer.lay_values.Goals as goal

-- a value where the raster keeps it
kept_value : (r : Pixels) (cells : CellList) (k d : ℕ) → r ≡ raster_of r.rows r.cols r.depth (marks_of r) cells → AreVectors r.rows r.cols r.depth (marks_of r) cells → k < r.rows * r.cols → d < r.depth
    → get_or cells.values (k * r.depth + d) (pos 0) ≡ value_in r d k
kept_value r cells k d is vectors inside deep =
    let a : Inside = record { rows = r.rows; cols = r.cols; depth = r.depth; marks = marks_of r; values = cells } in
    sym (value_flat a cells.values k d (keeps_itself a (inside_vectors r.rows r.cols r.depth (marks_of r) cells vectors)) (omega (arith, inside, vectors.marks)) deep) ∙ ap (λ (s : Pixels). value_in s d k) (sym is)

base_low : (f : Frame) (r : Pixels) (row : ℕ) → IsPlaced f r → row < r.rows → (f.top + row) / 2 * f.cols < 2 ^ 32
base_low f r row h below =
    let high : (f.top + row) / 2 < r.rows = omega (arith, h.top, below) in
    let few = places_few r.rows r.cols r.depth h.raster.shape in
    let up : (f.top + row) / 2 * f.cols ≤ r.rows * f.cols = mul-le-mul_right f.cols (omega (arith, high)) in
    let e : r.rows * f.cols ≡ r.rows * r.cols = ap (λ n. r.rows * n) h.cols in
    omega (arith, up, e, few)

pub loop-d-init : goal.loop-d-init
loop-d-init g c = depths_none c.args.frame c.args.raster.now (c.args.row * c.args.frame.cols + c.args.col) c.args.count (c.args.raster.now.rows * c.args.raster.now.cols) (map g.S.Sum.number c.args.sums.now)

pub add_values-requires : goal.add_values-requires
add_values-requires g c =
    let f = c.args.frame in
    let r : Pixels = c.args.raster.now in
    let d = c.loop-d.d in
    let N = g.S.Sum.number in
    let cells : CellList = c.read-cells.result in
    let given : CellList = c.samples-samples.result.now in
    let same : cells ≡ given = c.read-cells.ensures in
    let is : r ≡ raster_of r.rows r.cols r.depth (marks_of r) cells = subst (λ (l : CellList). r ≡ raster_of r.rows r.cols r.depth (marks_of r) l) (sym same) c.samples-samples.ensures.value in
    let vectors : AreVectors r.rows r.cols r.depth (marks_of r) cells = subst (AreVectors r.rows r.cols r.depth (marks_of r)) (sym same) c.samples-samples.ensures.vectors in
    let from = c.args.row * f.cols + c.args.col in
    let row : c.args.row * f.cols + f.cols ≤ r.rows * r.cols = row_fits c.args.row f.cols r.rows r.cols c.requires.row (omega (arith, c.requires.placed.cols)) in
    let behind : from + c.args.count ≤ r.rows * r.cols = omega (arith, row, c.requires.cols) in
    let deep : d < f.depth = c.loop-d-test.true in
    let sums = map N c.loop-d.sums in
    let wide : length sums ≡ r.rows * r.cols * f.depth = length-map c.loop-d.sums N ∙ c.loop-d.auto.sums ∙ c.requires.sums ∙ ap (λ n. r.rows * r.cols * n) (sym c.requires.placed.depth) in
    let value : (i : ℕ) → i < c.args.count → piece_amount from f.depth d cells.values i ≡ value_in r d (from + i) = λ i less.
    ap (λ n. get_or cells.values ((from + i) * n + d) (pos 0)) c.requires.placed.depth ∙ kept_value r cells (from + i) d is vectors (omega (arith, less, behind)) (omega (arith, deep, c.requires.placed.depth)) in
    let reach = g.S.Sum.reach in
    let few : r.rows * r.cols * r.depth ≤ 16777216 = vectors.shape.size in
    let shape = c.requires.placed.raster.shape in
    let p : Piece = record { first = from; count = c.args.count; depth = f.depth; d = d; base = (f.top + c.args.row) / 2 * f.cols; col = f.left + c.args.col } in
    let h : CanAdd reach p cells.values sums = record {
      size = omega (arith, vectors.values, few);
      low = base_low f r c.args.row c.requires.placed c.requires.row;
      left = omega (arith, c.requires.placed.left, c.requires.cols, cols_few r.rows r.cols r.depth shape, c.requires.placed.cols);
      few = c.requires.few;
      depth = deep;
      depths = omega (arith, c.requires.placed.depth, shape.depth_below);
      there = (let up : (from + c.args.count) * f.depth ≤ r.rows * r.cols * f.depth = mul-le-mul_right f.depth behind in let e : r.rows * r.cols * f.depth ≡ r.rows * r.cols * r.depth = ap (λ n. r.rows * r.cols * n) c.requires.placed.depth in omega (arith, up, e, vectors.values));
      room = λ i less. place_few _ d (r.rows * r.cols) f.depth (length sums) (total_below f r c.args.row c.args.col i c.requires.placed c.requires.row (omega (arith, less, c.requires.cols))) deep wide;
      small = λ i less. subst (IsWithin reach) (sym (value i less)) (subst (λ n. IsWithin n (value_in r d (from + i))) (sym c.requires.reach) (value_within r d (from + i) c.requires.placed.raster));
      within = λ t less.
          let first = c.requires.within t d (place_back t d (r.rows * r.cols) f.depth (length sums) less wide) deep in
          let same' = c.loop-d.invariant.rest t d (omega arith) deep in
          (omega (arith, ints, first.0, same'), omega (arith, ints, first.1, same'));
    } in
    record { fits = h }

pub loop-d-preserved : goal.loop-d-preserved
loop-d-preserved g c =
    let f = c.args.frame in
    let r : Pixels = c.args.raster.now in
    let d = c.loop-d.d in
    let N = g.S.Sum.number in
    let cells : CellList = c.read-cells.result in
    let given : CellList = c.samples-samples.result.now in
    let same : cells ≡ given = c.read-cells.ensures in
    let is : r ≡ raster_of r.rows r.cols r.depth (marks_of r) cells = subst (λ (l : CellList). r ≡ raster_of r.rows r.cols r.depth (marks_of r) l) (sym same) c.samples-samples.ensures.value in
    let vectors : AreVectors r.rows r.cols r.depth (marks_of r) cells = subst (AreVectors r.rows r.cols r.depth (marks_of r)) (sym same) c.samples-samples.ensures.vectors in
    let from = c.args.row * f.cols + c.args.col in
    let row : c.args.row * f.cols + f.cols ≤ r.rows * r.cols = row_fits c.args.row f.cols r.rows r.cols c.requires.row (omega (arith, c.requires.placed.cols)) in
    let behind : from + c.args.count ≤ r.rows * r.cols = omega (arith, row, c.requires.cols) in
    let deep : d < f.depth = c.loop-d-test.true in
    let sums = map N c.loop-d.sums in
    let wide : length sums ≡ r.rows * r.cols * f.depth = length-map c.loop-d.sums N ∙ c.loop-d.auto.sums ∙ c.requires.sums ∙ ap (λ n. r.rows * r.cols * n) (sym c.requires.placed.depth) in
    let value : (i : ℕ) → i < c.args.count → piece_amount from f.depth d cells.values i ≡ value_in r d (from + i) = λ i less.
    ap (λ n. get_or cells.values ((from + i) * n + d) (pos 0)) c.requires.placed.depth ∙ kept_value r cells (from + i) d is vectors (omega (arith, less, behind)) (omega (arith, deep, c.requires.placed.depth)) in
    depths_more f r c.args.row c.args.col c.args.count (r.rows * r.cols) d (piece_amount from f.depth d cells.values) (map N c.args.sums.now) sums (map N c.add_values.new.sums) deep c.requires.cols
    (λ t less. place_few t d (r.rows * r.cols) f.depth (length sums) less deep wide)
    value c.add_values.ensures c.loop-d.invariant

pub returns : goal.returns
returns g c = depths_all c.args.frame c.args.raster.now (c.args.row * c.args.frame.cols + c.args.col) c.args.count (c.args.raster.now.rows * c.args.raster.now.cols) c.loop-d.d (map g.S.Sum.number c.args.sums.now) (map g.S.Sum.number c.loop-d.sums) c.loop-d-test.false c.loop-d.invariant
