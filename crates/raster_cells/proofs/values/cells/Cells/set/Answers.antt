use Rattle.std.proofs.Common.{ap, ◌∙◌, [], ◌∷◌}
use Rattle.raster_cells.proofs.ValueBits.{same_bits}
use Rattle.raster_cells.proofs.CellRuns.{with_run, one_put}
use Rattle.raster_cells.proofs.values.cells.Cells.set.Goals as goal

pub returns : goal.returns
returns c =
    let old = c.args.self.now in
    c.put_all.ensures.put ∙ ap (λ vs. record old { values = vs })
    (ap (λ v. with_run old.values c.args.at (v ∷ [])) (same_bits old.kind c.args.value c.requires.in_range) ∙ one_put old.values c.args.at c.args.value c.requires.within)
