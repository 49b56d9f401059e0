use Rattle.std.proofs.Common.{◌∙◌, ◌-◌, ◌/◌, ◌^◌, ℕ, ap, arith, bit_and}
use Rattle.std.proofs.lemmas.Nat.{one_shl, and_mask}
use Rattle.bit_stuff.proofs.unpacking.field.Goals as goal

pub returns : goal.returns
returns c =
    let shifted = c.args.word / 2 ^ c.args.shift in
    ap (λ (m : ℕ). bit_and shifted (m - 1)) (one_shl c.args.width 64 (omega arith)) ∙ and_mask shifted c.args.width
