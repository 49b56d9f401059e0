use Rattle.std.proofs.Common.{◌++◌, ℕ, List, length, drop, ap, ◌∙◌, arith}
use Rattle.micro_block.specs.inside.Stepping.{values_above}
use Rattle.micro_block.proofs.Chosen.{has_table, may_table, table_block, tabled_listable}
use Rattle.micro_block.proofs.few.write_ranked.Goals as goal

pub write_ranked_form-requires-clause-listable : goal.write_ranked_form-requires-clause-listable
write_ranked_form-requires-clause-listable c =
    let ctx = c.args.ctx.now in
    let ds = c.args.distances.now in
    let e = c.requires.table.0 c.if-has_table.true in
    tabled_listable ctx.kind ctx.step ds c.spread_of-spread.result c.requires.few c.spread_of-spread.ensures (may_table ctx.kind ctx.col ctx.step (values_above ctx.kind ds) e)

pub write_ranked_form-requires-clause-table : goal.write_ranked_form-requires-clause-table
write_ranked_form-requires-clause-table c =
    let ctx = c.args.ctx.now in
    let ds = c.args.distances.now in
    let e = c.requires.table.0 c.if-has_table.true in
    has_table ctx.kind ctx.step ds c.spread_of-spread.result c.spread_of-spread.ensures (may_table ctx.kind ctx.col ctx.step (values_above ctx.kind ds) e)

pub write_ranked_form-requires-clause-room : goal.write_ranked_form-requires-clause-room
write_ranked_form-requires-clause-room c =
    let ctx = c.args.ctx.now in
    let vs = values_above ctx.kind c.args.distances.now in
    let e = c.requires.table.0 c.if-has_table.true in
    let same = ap length (table_block ctx.kind ctx.col ctx.step vs e) in
    omega (arith, same, c.requires.room)

pub returns-then-spread-ge-NEAR-clause-count : goal.returns-then-spread-ge-NEAR-clause-count
returns-then-spread-ge-NEAR-clause-count c =
    let ctx = c.args.ctx.now in
    let vs = values_above ctx.kind c.args.distances.now in
    let e = c.requires.table.0 c.if-has_table.true in
    c.write_ranked_form.ensures.count ∙ ap length (table_block ctx.kind ctx.col ctx.step vs e)

pub returns-then-spread-ge-NEAR-clause-bytes : goal.returns-then-spread-ge-NEAR-clause-bytes
returns-then-spread-ge-NEAR-clause-bytes c =
    let ctx = c.args.ctx.now in
    let vs = values_above ctx.kind c.args.distances.now in
    let e = c.requires.table.0 c.if-has_table.true in
    c.write_ranked_form.ensures.bytes ∙ ap (λ (bytes : List ℕ). bytes ++ drop c.write_ranked_form.result c.args.out.now) (table_block ctx.kind ctx.col ctx.step vs e)
