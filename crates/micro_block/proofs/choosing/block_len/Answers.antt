use Rattle.std.proofs.Common.{◌≤ℤ◌, ℤ, List, length, sym, ap, subst, ◌∙◌}
use Rattle.std.specs.Prelude.{All}
use Rattle.micro_block.specs.ChosenBlock.{block_bytes}
use Rattle.micro_block.proofs.Above.{distances_fit, given_back}
use Rattle.micro_block.proofs.choosing.block_len.Goals as goal

pub block_size-requires-clause-in_range : goal.block_size-requires-clause-in_range
block_size-requires-clause-in_range c = distances_fit c.args.ctx.now.kind c.args.values.now c.distances_of.new.out c.distances_of.ensures c.requires.in_range

pub block_size-requires-clause-capped : goal.block_size-requires-clause-capped
block_size-requires-clause-capped c =
    let ctx = c.args.ctx.now in
    subst (λ (vs : List ℤ). All (λ v. v ≤ℤ ctx.top) vs) (sym (given_back ctx.kind c.args.values.now c.distances_of.new.out c.distances_of.ensures c.requires.in_range)) c.requires.capped

pub returns-clause-length : goal.returns-clause-length
returns-clause-length c =
    let ctx = c.args.ctx.now in
    c.block_size.ensures.length ∙ ap (λ (vs : List ℤ). length (block_bytes ctx.kind ctx.col ctx.step vs)) (given_back ctx.kind c.args.values.now c.distances_of.new.out c.distances_of.ensures c.requires.in_range)
