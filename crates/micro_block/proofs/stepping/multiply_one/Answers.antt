use Rattle.std.proofs.Common.{◌+◌, ◌-◌, ◌*◌, ◌/◌, ◌^◌, ℕ, ap, ◌∙◌}
use Rattle.micro_block.proofs.Stepped.{steps_multiplied}
use Rattle.micro_block.proofs.stepping.multiply_one.Goals as goal

pub returns : goal.returns
returns c =
    let p = c.args.product in
    let above = c.args.distance - c.args.least + c.args.half in
    ap (λ (n : ℕ). n * c.from-2.result / 2 ^ p.shift) c.from.ensures
    ∙ ap (λ (factor : ℕ). above * factor / 2 ^ p.shift) c.from-2.ensures
    ∙ steps_multiplied c.args.half c.args.least c.args.distance p c.requires.step c.requires.near
