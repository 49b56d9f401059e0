use Rattle.std.proofs.Common.{◌≢◌, ◌<◌, ◌∙◌, arith, length, get_or-set_other, get_or-set_same, below_more, refl}
use Rattle.std.proofs.lemmas.List.{length-set}
use Rattle.bit_stuff.proofs.unpacking.places_of_lanes.Goals as goal

pub loop-i-preserved : goal.loop-i-preserved
loop-i-preserved c =
    let i = c.loop-i.i in record {
      long = length-set _ _ _ ∙ c.loop-i.invariant.long;
      stand = below_more _ i
          (λ k h. let ne : k ≢ i = omega arith in rw get_or-set_other (c.loop-i.invariant.stand k h))
          (let lt : i < length c.loop-i.places = omega (arith, c.loop-i.invariant.long) in rw get_or-set_same refl);
    }
