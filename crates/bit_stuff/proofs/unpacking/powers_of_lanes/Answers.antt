use Rattle.std.proofs.Common.{◌≢◌, ◌<◌, ◌-◌, ◌+◌, ◌*◌, ◌%◌, ◌∙◌, arith, length, get_or-set_other, get_or-set_same, below_more}
use Rattle.std.proofs.lemmas.List.{length-set}
use Rattle.std.proofs.lemmas.Nat.{one_shl}
use Rattle.bit_stuff.proofs.unpacking.powers_of_lanes.Goals as goal

pub loop-k-preserved : goal.loop-k-preserved
loop-k-preserved c =
    let k = c.loop-k.k in
    let up = 32 - c.args.width - (c.args.phase + c.args.width * k) % 8 in record {
      long = length-set _ _ _ ∙ c.loop-k.invariant.long;
      stand = below_more _ k
          (λ j h. let ne : j ≢ k = omega arith in rw get_or-set_other (c.loop-k.invariant.stand j h))
          (let lt : k < length c.loop-k.powers = omega (arith, c.loop-k.invariant.long) in rw get_or-set_same (one_shl up 32 (omega arith)));
    }
