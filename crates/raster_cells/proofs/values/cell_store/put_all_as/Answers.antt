use Rattle.std.proofs.Common.{◌+◌, ◌++◌, take, drop, length, ap, ◌∙◌}
use Rattle.raster_cells.proofs.GivenRuns.{all_given}
use Rattle.raster_cells.proofs.values.cell_store.put_all_as.Goals as goal

pub returns-clause-put : goal.returns-clause-put
returns-clause-put g c =
    let cells = g.V.CellStore.cells c.args.cells.now in
    let listed = g.G.ValueSource.listed c.args.given.now in
    c.put_as.ensures.put
    ∙ ap (λ n. record cells { values = take c.args.at cells.values ++ (take n (drop 0 listed) ++ drop (c.args.at + n) cells.values) }) c.len.ensures
    ∙ ap (λ run. record cells { values = take c.args.at cells.values ++ (run ++ drop (c.args.at + length listed) cells.values) }) (all_given listed)
