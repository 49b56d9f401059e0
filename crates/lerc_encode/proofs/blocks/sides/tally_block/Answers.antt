use Rattle.std.proofs.Common.{◌≡◌, ◌↔◌, map, subst}
use Rattle.std.specs.Prelude.{IsTrue}
use Rattle.raster_cells.specs.Distance.{value_above}
use Rattle.micro_block.specs.ChosenBlock as micro
use Rattle.micro_block.specs.ChosenBlock.{chosen_form}
use Rattle.lerc_encode.proofs.SideSteps.{one_flag}
use Rattle.lerc_encode.proofs.BlocksAt.{table_there}
use Rattle.lerc_encode.proofs.blocks.sides.tally_block.Goals as goal

pub returns-clause-tables : goal.returns-clause-tables
returns-clause-tables g c =
    let h = c.args.walk.now.header.now in
    let r = (g.V.View.pixels c.args.walk.now.raster.now) in
    let told = c.size_and_names-size.result.has_table in
    let ctx = c.context-ctx.ensures in
    let same : (IsTrue told ↔ (chosen_form c.context-ctx.result.kind c.context-ctx.result.col c.context-ctx.result.step (map (value_above c.context-ctx.result.kind) c.args.distances.now) ≡ micro.table))
    ≡ (IsTrue told ↔ (chosen_form h.kind c.args.block.spot.col h.step (map (value_above h.kind) c.args.distances.now) ≡ micro.table)) =
    λ i. IsTrue told ↔ (chosen_form (ctx.kind i) (ctx.column i) (ctx.step i) (map (value_above (ctx.kind i)) c.args.distances.now) ≡ micro.table) in
    let has = subst (λ (T : Type 0). T) same c.size_and_names-size.ensures.table in
    let is = c.requires.table in
    one_flag h r c.args.block.k c.args.tally.now.tables c.add.new.tally.tables told c.add.ensures.room c.add.ensures.group c.add.ensures.this c.add.ensures.others
    (table_there h r c.args.block.k c.args.block.spot told c.requires.spot (λ t. is.0 (has.0 t), λ t. has.1 (is.1 t)))
