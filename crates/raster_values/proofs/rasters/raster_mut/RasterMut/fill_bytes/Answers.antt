use Rattle.std.proofs.Common.{length, ap, ◌∙◌, sym, subst}
use Rattle.raster_cells.specs.Values.{AreValues}
use Rattle.raster_cells.specs.CellList.{CellList}
use Rattle.raster_cells.proofs.CellRuns.{length-values_in}
use Rattle.raster_cells.proofs.Spelled.{read_stand}
use Rattle.raster_values.proofs.rasters.raster_mut.RasterMut.fill_bytes.Goals as goal

pub fill_given-requires-clause-count : goal.fill_given-requires-clause-count
fill_given-requires-clause-count c =
    ap (λ (l : CellList). length l.values) c.over-list.ensures ∙ length-values_in c.args.self.now.kind c.args.self.now.depth c.args.bytes.now

pub returns-clause-filled : goal.returns-clause-filled
returns-clause-filled c =
    let t = c.args.self.now in
    record {
      list = c.over-list.result.values;
      stands = subst (λ (l : CellList). AreValues t.kind c.args.bytes.now l.values) (sym c.over-list.ensures) (read_stand t.kind t.depth c.args.bytes.now c.requires.size);
      filled = c.fill_given.ensures.filled;
    }
