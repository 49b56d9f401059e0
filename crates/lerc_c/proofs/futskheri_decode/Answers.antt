use Rattle.std.proofs.Common.{refl, sym, subst}
use Rattle.lerc_c.specs.Told.{IsRefused}
use Rattle.lerc_c.proofs.futskheri_decode.Goals as goal

pub returns-in-Err-Refused-clause-refused : goal.returns-in-Err-Refused-clause-refused
returns-in-Err-Refused-clause-refused c = λ _.
    let found = c.in-Err-Refused.found in
    let f = c.fault_of.result in
    let told : IsRefused c.args.blob.now found.place found.reason = rw c.in-Err-Refused.field-0-is at c.in-Err-Refused.ensures.stop in
    record {
      reason = found.reason;
      refused = subst (λ place. IsRefused c.args.blob.now place found.reason) (sym c.fault_of.ensures.place_is) told;
      numbers = record { place_is = refl; reason_is = c.fault_of.ensures.reason_is; stated = c.fault_of.ensures.stated; found = c.fault_of.ensures.found };
    }
