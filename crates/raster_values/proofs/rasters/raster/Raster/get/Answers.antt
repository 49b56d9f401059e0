use Rattle.std.proofs.Common.{◌≡◌, ◌<◌, ◌+◌, ◌*◌, ◌∙◌, subst, ap, get_or}
use Rattle.std.specs.Prelude.{pos}
use Rattle.raster_values.specs.Raster.{InShape, value_at, Pixels}
use Rattle.raster_values.proofs.Views.{value_read}
use Rattle.raster_cells.proofs.ValueBits.{same_bits}
use Rattle.raster_values.proofs.rasters.raster.Raster.get.Goals as goal

pub returns : goal.returns
returns c =
    let x = c.get.result in
    let a = c.self.inside in
    let read : x ≡ get_or a.values.values ((c.args.row * a.cols + c.args.col) * a.depth + c.args.d) (pos 0) =
    c.get.ensures.value ∙ ap (λ j. get_or a.values.values j (pos 0)) c.offset.ensures.value in
    same_bits a.values.kind x c.get.ensures.in_range
    ∙ subst (λ (r : Pixels). InShape r c.args.row c.args.col → c.args.d < r.depth → x ≡ value_at r c.args.row c.args.col c.args.d) c.self.view_is
    (value_read a c.args.row c.args.col c.args.d x c.self.invariant read) c.requires.place c.requires.depth
