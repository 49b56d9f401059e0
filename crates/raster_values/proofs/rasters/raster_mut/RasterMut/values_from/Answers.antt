use Rattle.std.proofs.Common.{◌≤◌, ◌+◌, ◌*◌, ◌∙◌, ℕ, ap, sym, refl, length, get_or, map, arith}
use Rattle.std.specs.Prelude.{ℤ, pos}
use Rattle.std.proofs.lemmas.List.FromFn.{get_or-map-range_with_len}
use Rattle.std.proofs.Math.Nat.{mul-le-mul_right}
use Rattle.std.specs.List.{range_with_len}
use Rattle.raster_cells.specs.CellList.{CellList}
use Rattle.raster_values.specs.RasterMut.{inside_of}
use Rattle.raster_cells.proofs.CellRuns.{length-values_in}
use Rattle.raster_cells.proofs.ValueBytes.{value_bytes_long}
use Rattle.raster_values.proofs.FlatViews.{value_flat, keeps_itself}
use Rattle.raster_values.proofs.rasters.raster_mut.RasterMut.values_from.Goals as goal

pub over-values-requires-clause-size : goal.over-values-requires-clause-size
over-values-requires-clause-size c =
    let t = c.args.self.now in
    value_bytes_long t.kind t.count t.values.now c.args.self.now.cells

pub get_pixels-requires : goal.get_pixels-requires
get_pixels-requires c =
    let t = c.args.self.now in
    let up : (c.args.place + length c.args.out.now) * t.depth ≤ t.rows * t.cols * t.depth = mul-le-mul_right t.depth c.requires.place in
    omega (arith, up, c.args.self.now.inside.values, length-values_in t.kind t.count t.values.now, ap (λ (l : CellList). length l.values) c.over-values.ensures)

pub returns-clause-values : goal.returns-clause-values
returns-clause-values c i below =
    let a = inside_of c.args.self.now in
    let h = c.args.self.now.inside in
    let f : ℕ → ℤ = λ k. get_or a.values.values (k * a.depth + c.args.d) (pos 0) in
    ap (λ xs. get_or xs i (pos 0))
    (c.get_pixels.ensures ∙ ap (λ (l : CellList). map (λ k. get_or l.values (k * a.depth + c.args.d) (pos 0)) (range_with_len c.args.place (length c.args.out.now))) c.over-values.ensures)
    ∙ get_or-map-range_with_len f c.args.place (length c.args.out.now) i (c.args.place + i) (pos 0) below refl
    ∙ sym (value_flat a a.values.values (c.args.place + i) c.args.d (keeps_itself a h) (omega (arith, c.requires.place, below, h.marks)) c.requires.depth)
