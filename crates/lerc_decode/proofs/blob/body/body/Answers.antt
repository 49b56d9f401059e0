use Rattle.std.proofs.Common.{◌≡◌, List, ℕ, subst}
use Rattle.std.specs.Prelude.{IfErr, IfOk}
use Rattle.lerc_grammar.specs.Blob.{BlobAfter, blob_faults}
use Rattle.lerc_decode.specs.inside.Body.{IsStopOf}
use Rattle.lerc_decode.proofs.blob.body.body.Goals as goal

pub returns-in-Ok-clause-ok : goal.returns-in-Ok-clause-ok
returns-in-Ok-clause-ok c =
    subst (λ (blob : List ℕ). IfOk c.raster_of.result (λ r. BlobAfter c.args.before.now blob r)) c.in-Ok.ensures.ok.0 c.raster_of.ensures.ok

pub returns-in-Ok-clause-fault : goal.returns-in-Ok-clause-fault
returns-in-Ok-clause-fault c =
    let is = c.in-Ok.ensures.ok in
    let same : (IfErr c.raster_of.result (IsStopOf (blob_faults c.args.before.now c.in-Ok.summed.header c.in-Ok.summed.bytes.now)))
    ≡ (IfErr c.raster_of.result (IsStopOf (blob_faults c.args.before.now c.args.header.now c.args.blob.now))) =
    λ i. IfErr c.raster_of.result (IsStopOf (blob_faults c.args.before.now (is.1 i) (is.0 i))) in
    subst (λ (T : Type 0). T) same c.raster_of.ensures.fault

pub returns-in-Err-clause-fault : goal.returns-in-Err-clause-fault
returns-in-Err-clause-fault c = c.in-Err.ensures.fault c.args.before.now
