use Rattle.std.proofs.Common.{◌≡◌, ◌+◌, ◌*◌, ◌∙◌, ap, map, get_or, pos, subst, sym, arith}
use Rattle.std.specs.List.{range_with_len}
use Rattle.std.proofs.lemmas.Int.{ints}
use Rattle.lane_kernels.specs.Kernels.{IsLeast, IsGreatest}
use Rattle.raster_cells.specs.PixelType.{type_least}
use Rattle.raster_cells.specs.CellList.{CellList}
use Rattle.raster_cells.proofs.Distances.{sum_is}
use Rattle.raster_cells.proofs.values.cell_bytes.CellBytes.extremes.Goals as goal

pub returns-clause-least : goal.returns-clause-least
returns-clause-least c =
    let bottom : c.least-bottom.result ≡ type_least c.args.self.now.kind = c.least-bottom.ensures ∙ ap (λ (l : CellList). type_least l.kind) c.self.view_is in
    let near = c.ends-near.result.0 in
    subst (IsLeast (map (λ k. get_or c.args.self.now.values (k * c.args.pixels.depth + c.args.pixels.d) (pos 0)) (range_with_len c.args.pixels.first c.args.count)))
    (sym (sum_is c.args.self.now.kind c.least-bottom.result c.from.result near bottom (omega (arith, ints, c.from.ensures)) (omega arith))) c.ends-near.ensures.least

pub returns-clause-greatest : goal.returns-clause-greatest
returns-clause-greatest c =
    let bottom : c.least-bottom.result ≡ type_least c.args.self.now.kind = c.least-bottom.ensures ∙ ap (λ (l : CellList). type_least l.kind) c.self.view_is in
    let far = c.ends-near.result.1 in
    subst (IsGreatest (map (λ k. get_or c.args.self.now.values (k * c.args.pixels.depth + c.args.pixels.d) (pos 0)) (range_with_len c.args.pixels.first c.args.count)))
    (sym (sum_is c.args.self.now.kind c.least-bottom.result c.from-2.result far bottom (omega (arith, ints, c.from-2.ensures)) (omega arith))) c.ends-near.ensures.greatest
