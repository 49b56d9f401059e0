use Rattle.std.proofs.Common.{◌≤ℤ◌, ◌++◌, ℤ, List, length, take, drop, sym, ap, subst, ◌∙◌, arith}
use Rattle.std.specs.Prelude.{All}
use Rattle.micro_block.specs.Block.{IsBlock}
use Rattle.micro_block.specs.ChosenBlock.{block_bytes}
use Rattle.micro_block.specs.Frame.{frame_of}
use Rattle.micro_block.proofs.Above.{distances_fit, given_back}
use Rattle.micro_block.proofs.WriteSteps.{writable, written_block}
use Rattle.micro_block.proofs.Written.{kept_exact, kept_near}
use Rattle.micro_block.proofs.writing.write_block.Goals as goal

pub block_size-size-requires-clause-in_range : goal.block_size-size-requires-clause-in_range
block_size-size-requires-clause-in_range c = distances_fit c.args.ctx.now.kind c.args.values.now c.distances_of.new.out c.distances_of.ensures c.requires.in_range

pub block_size-size-requires-clause-capped : goal.block_size-size-requires-clause-capped
block_size-size-requires-clause-capped c =
    let ctx = c.args.ctx.now in
    subst (λ (vs : List ℤ). All (λ v. v ≤ℤ ctx.top) vs) (sym (given_back ctx.kind c.args.values.now c.distances_of.new.out c.distances_of.ensures c.requires.in_range)) c.requires.capped

pub write_distances-requires-clause-in_range : goal.write_distances-requires-clause-in_range
write_distances-requires-clause-in_range c = distances_fit c.args.ctx.now.kind c.args.values.now c.distances_of.new.out c.distances_of.ensures c.requires.in_range

pub write_distances-requires-clause-capped : goal.write_distances-requires-clause-capped
write_distances-requires-clause-capped c =
    let ctx = c.args.ctx.now in
    subst (λ (vs : List ℤ). All (λ v. v ≤ℤ ctx.top) vs) (sym (given_back ctx.kind c.args.values.now c.distances_of.new.out c.distances_of.ensures c.requires.in_range)) c.requires.capped

pub write_distances-requires-clause-room : goal.write_distances-requires-clause-room
write_distances-requires-clause-room c =
    let ctx = c.args.ctx.now in
    let back = given_back ctx.kind c.args.values.now c.distances_of.new.out c.distances_of.ensures c.requires.in_range in
    let same = ap (λ (vs : List ℤ). length (block_bytes ctx.kind ctx.col ctx.step vs)) back in
    omega (arith, same, c.requires.room)

pub returns-clause-count : goal.returns-clause-count
returns-clause-count c =
    let ctx = c.args.ctx.now in
    let back = given_back ctx.kind c.args.values.now c.distances_of.new.out c.distances_of.ensures c.requires.in_range in
    c.write_distances.ensures.count ∙ ap (λ (vs : List ℤ). length (block_bytes ctx.kind ctx.col ctx.step vs)) back

pub returns-clause-bytes : goal.returns-clause-bytes
returns-clause-bytes c =
    let ctx = c.args.ctx.now in
    let back = given_back ctx.kind c.args.values.now c.distances_of.new.out c.distances_of.ensures c.requires.in_range in
    c.write_distances.ensures.bytes ∙ ap (λ (vs : List ℤ). block_bytes ctx.kind ctx.col ctx.step vs ++ drop c.write_distances.result c.args.out.now) back

pub returns-clause-stands : goal.returns-clause-stands
returns-clause-stands c =
    let ctx = c.args.ctx.now in
    let vs = c.args.values.now in
    let back = given_back ctx.kind vs c.distances_of.new.out c.distances_of.ensures c.requires.in_range in
    written_block ctx vs (drop c.write_distances.result c.args.out.now) c.write_distances.new.out c.write_distances.result
    (writable ctx vs c.requires.few c.requires.in_range c.requires.capped)
    (sym (c.write_distances.ensures.count ∙ ap (λ (us : List ℤ). length (block_bytes ctx.kind ctx.col ctx.step us)) back))
    (c.write_distances.ensures.bytes ∙ ap (λ (us : List ℤ). block_bytes ctx.kind ctx.col ctx.step us ++ drop c.write_distances.result c.args.out.now) back)

pub returns-clause-near : goal.returns-clause-near
returns-clause-near c =
    let ctx = c.args.ctx.now in
    let vs = c.args.values.now in
    kept_near (frame_of ctx (length vs)) vs (writable ctx vs c.requires.few c.requires.in_range c.requires.capped)

pub returns-clause-exact : goal.returns-clause-exact
returns-clause-exact c one =
    let ctx = c.args.ctx.now in
    let vs = c.args.values.now in
    let back = given_back ctx.kind vs c.distances_of.new.out c.distances_of.ensures c.requires.in_range in
    let w = writable ctx vs c.requires.few c.requires.in_range c.requires.capped in
    subst (λ (ws : List ℤ). IsBlock (frame_of ctx (length vs)) (take c.write_distances.result c.write_distances.new.out) ws)
    (kept_exact (frame_of ctx (length vs)) vs w one)
    (written_block ctx vs (drop c.write_distances.result c.args.out.now) c.write_distances.new.out c.write_distances.result w
    (sym (c.write_distances.ensures.count ∙ ap (λ (us : List ℤ). length (block_bytes ctx.kind ctx.col ctx.step us)) back))
    (c.write_distances.ensures.bytes ∙ ap (λ (us : List ℤ). block_bytes ctx.kind ctx.col ctx.step us ++ drop c.write_distances.result c.args.out.now) back))
