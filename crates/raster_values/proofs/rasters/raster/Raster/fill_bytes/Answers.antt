use Rattle.std.proofs.Common.{◌≡◌, ◌*◌, length, ap, ◌∙◌, sym, subst}
use Rattle.raster_cells.specs.declared.kind.PixelType.{PixelType}
use Rattle.raster_cells.specs.PixelType.{bytes_of}
use Rattle.raster_values.specs.Raster.{Pixels}
use Rattle.raster_cells.specs.Values.{AreValues}
use Rattle.raster_cells.specs.CellList.{CellList, values_in}
use Rattle.raster_cells.proofs.CellRuns.{length-values_in}
use Rattle.raster_cells.proofs.Spelled.{read_stand}
use Rattle.raster_values.proofs.rasters.raster.Raster.fill_bytes.Goals as goal

pub fill_given-requires-clause-count : goal.fill_given-requires-clause-count
fill_given-requires-clause-count c =
    ap (λ (l : CellList). length l.values) c.over-list.ensures ∙ length-values_in c.kind.result c.self.inside.depth c.args.bytes.now ∙ ap (λ (r : Pixels). r.depth) c.self.view_is

pub returns-clause-filled : goal.returns-clause-filled
returns-clause-filled c =
    let r = c.args.self.now in
    let bytes = c.args.bytes.now in
    let kind = c.kind.result in
    let depth = c.self.inside.depth in
    let deep : depth ≡ r.depth = ap (λ (p : Pixels). p.depth) c.self.view_is in
    let kind_is : kind ≡ r.kind = c.kind.ensures ∙ ap (λ (p : Pixels). p.kind) c.self.view_is in
    let size : length bytes ≡ depth * bytes_of kind = c.requires ∙ (λ i. sym deep i * bytes_of (sym kind_is i)) in
    record {
      list = c.over-list.result.values;
      stands = subst (λ (k : PixelType). AreValues k bytes c.over-list.result.values) kind_is
          (subst (λ (l : CellList). AreValues kind bytes l.values) (sym c.over-list.ensures) (read_stand kind depth bytes size));
      filled = c.fill_given.ensures.filled;
    }
