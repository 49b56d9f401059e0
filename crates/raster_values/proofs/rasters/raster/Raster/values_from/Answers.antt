use Rattle.std.proofs.Common.{◌≡◌, ◌<◌, ◌≤◌, ◌+◌, ◌*◌, ◌∙◌, ℕ, ap, sym, refl, subst, length, get_or, map, arith}
use Rattle.std.specs.Prelude.{ℤ, pos}
use Rattle.std.proofs.lemmas.List.FromFn.{get_or-map-range_with_len}
use Rattle.std.specs.List.{range_with_len}
use Rattle.std.proofs.Math.Nat.{mul-le-mul_right}
use Rattle.raster_values.specs.Raster.{Pixels}
use Rattle.raster_cells.specs.CellList.{CellList}
use Rattle.raster_values.specs.Flat.{value_in}
use Rattle.raster_values.proofs.FlatViews.{value_flat, keeps_itself}
use Rattle.raster_values.proofs.rasters.raster.Raster.values_from.Goals as goal

pub returns-clause-values : goal.returns-clause-values
returns-clause-values c i below =
    let a = c.self.inside in
    let f : ℕ → ℤ = λ k. get_or a.values.values (k * a.depth + c.args.d) (pos 0) in
    ap (λ xs. get_or xs i (pos 0))
    (c.get_pixels.ensures ∙ ap (λ (l : CellList). map (λ k. get_or l.values (k * a.depth + c.args.d) (pos 0)) (range_with_len c.args.place (length c.args.out.now))) c.read-values.ensures)
    ∙ get_or-map-range_with_len f c.args.place (length c.args.out.now) i (c.args.place + i) (pos 0) below refl
    ∙ subst (λ (r : Pixels). c.args.place + length c.args.out.now ≤ r.rows * r.cols → c.args.d < r.depth → get_or a.values.values ((c.args.place + i) * a.depth + c.args.d) (pos 0) ≡ value_in r c.args.d (c.args.place + i)) c.self.view_is
    (λ within deep. sym (value_flat a a.values.values (c.args.place + i) c.args.d (keeps_itself a c.self.invariant) (omega (arith, within, below, c.self.invariant.marks)) deep)) c.requires.place c.requires.depth

pub get_pixels-requires : goal.get_pixels-requires
get_pixels-requires c =
    let a = c.self.inside in
    let within : c.args.place + length c.args.out.now ≤ a.rows * a.cols = subst (λ (r : Pixels). c.args.place + length c.args.out.now ≤ r.rows * r.cols) (sym c.self.view_is) c.requires.place in
    let up : (c.args.place + length c.args.out.now) * a.depth ≤ a.rows * a.cols * a.depth = mul-le-mul_right a.depth within in
    omega (arith, up, ap (λ (l : CellList). length l.values) c.read-values.ensures, c.self.invariant.values)
