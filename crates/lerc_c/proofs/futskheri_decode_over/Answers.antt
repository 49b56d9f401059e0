use Rattle.std.proofs.Common.{refl, sym, subst}
use Rattle.lerc_decode.specs.Over.{IsFaultOf}
use Rattle.lerc_c.specs.Told.{IsRefused}
use Rattle.lerc_c.proofs.Telling.{told_over}
use Rattle.lerc_c.proofs.futskheri_decode_over.Goals as goal

pub returns-in-Err-Blob-clause-refused : goal.returns-in-Err-Blob-clause-refused
returns-in-Err-Blob-clause-refused c = λ _.
    let found = c.in-Err-Blob.found in
    let told : IsFaultOf c.args.blob.now found = rw c.in-Err-Blob.field-0-is at c.in-Err-Blob.ensures.stop in
    record {
      reason = found.reason;
      refused = subst (λ place. IsRefused c.args.blob.now place found.reason) (sym c.fault_of.ensures.place_is) (told_over c.args.blob.now found told);
      numbers = record { place_is = refl; reason_is = c.fault_of.ensures.reason_is; stated = c.fault_of.ensures.stated; found = c.fault_of.ensures.found };
    }
