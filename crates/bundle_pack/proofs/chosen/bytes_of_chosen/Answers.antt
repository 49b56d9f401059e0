use Rattle.std.proofs.Common.{◌≡◌, ◌+◌, sym, ap, ◌∙◌, arith, add-one}
use Rattle.bundle_pack.specs.Chosen.{chosen_bytes, chosen_size}
use Rattle.bundle_pack.proofs.Choosing.{bytes-suc, bytes-zero}
use Rattle.bundle_pack.proofs.chosen.bytes_of_chosen.Goals as goal

pub loop-number-init : goal.loop-number-init
loop-number-init c = record { few = omega arith; is = λ bundles served. sym (bytes-zero bundles) }

pub loop-number-preserved : goal.loop-number-preserved
loop-number-preserved c =
    let inv = c.loop-number.invariant in
    let n = c.loop-number.number in
    record {
      few = omega (arith, inv.few, c.size_at.ensures.small, c.from-sum.ensures);
      is = λ bundles served.
          let more : chosen_bytes bundles (n + 1) ≡ chosen_bytes bundles n + chosen_size bundles n = ap (chosen_bytes bundles) (add-one n) ∙ bytes-suc bundles n in
          omega (arith, inv.is bundles served, c.size_at.ensures.is bundles served, c.from-sum.ensures, more);
    }
