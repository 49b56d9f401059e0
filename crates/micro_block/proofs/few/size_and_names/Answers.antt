use Rattle.std.proofs.Common.{◌∙◌, sym, arith}
use Rattle.std.proofs.lemmas.List.{length-map}
use Rattle.raster_cells.specs.Distance.{value_above}
use Rattle.micro_block.specs.inside.Forms.{IsChosen}
use Rattle.micro_block.specs.inside.Stepping.{values_above}
use Rattle.micro_block.proofs.Chosen.{chosen_found}
use Rattle.micro_block.proofs.Closed.{block_short}
use Rattle.micro_block.proofs.few.size_and_names.Goals as goal

pub named_len-tabled-requires-clause-found : goal.named_len-tabled-requires-clause-found
named_len-tabled-requires-clause-found c = record { room = c.requires.room; named = c.requires.known }

pub returns-clause-length : goal.returns-clause-length
returns-clause-length c =
    let ctx = c.args.ctx.now in
    let ds = c.args.distances.now in
    let chosen : IsChosen ctx.kind ctx.col ctx.step (values_above ctx.kind ds) c.fewest-chosen.result =
    chosen_found ctx.kind ctx.col ctx.step ds c.spread_of-spread.result c.named_len-tabled.result c.fewest-chosen.result c.requires.in_range c.spread_of-spread.ensures c.named_len-tabled.ensures.value c.fewest-chosen.ensures.first c.fewest-chosen.ensures.least in
    sym chosen.size

pub returns-clause-table : goal.returns-clause-table
returns-clause-table c =
    let ctx = c.args.ctx.now in
    let ds = c.args.distances.now in
    let chosen : IsChosen ctx.kind ctx.col ctx.step (values_above ctx.kind ds) c.fewest-chosen.result =
    chosen_found ctx.kind ctx.col ctx.step ds c.spread_of-spread.result c.named_len-tabled.result c.fewest-chosen.result c.requires.in_range c.spread_of-spread.ensures c.named_len-tabled.ensures.value c.fewest-chosen.ensures.first c.fewest-chosen.ensures.least in
    (λ t. sym chosen.form ∙ c.is_table.ensures.0 t, λ e. c.is_table.ensures.1 (chosen.form ∙ e))

pub returns-clause-short : goal.returns-clause-short
returns-clause-short c =
    let ctx = c.args.ctx.now in
    let ds = c.args.distances.now in
    let chosen : IsChosen ctx.kind ctx.col ctx.step (values_above ctx.kind ds) c.fewest-chosen.result =
    chosen_found ctx.kind ctx.col ctx.step ds c.spread_of-spread.result c.named_len-tabled.result c.fewest-chosen.result c.requires.in_range c.spread_of-spread.ensures c.named_len-tabled.ensures.value c.fewest-chosen.ensures.first c.fewest-chosen.ensures.least in
    let le = block_short ctx.kind ctx.col ctx.step (values_above ctx.kind ds) in
    let size = chosen.size in
    rw (← length-map ds (value_above ctx.kind)) (omega (arith, le, size))
