use Rattle.std.proofs.Common.{◌≡◌, List, ℕ, length, sym, subst}
use Rattle.std.specs.Prelude.{IfErr, None, OnOk}
use Rattle.raster_values.specs.Raster.{Pixels}
use Rattle.lerc_header.specs.declared.header.Header.{Header}
use Rattle.lerc_grammar.specs.Blob.{Blob, blob_faults}
use Rattle.lerc_decode.specs.Over.{HaveRoom, HoldRaster}
use Rattle.lerc_decode.specs.inside.Body.{IsFaultIn}
use Rattle.lerc_decode.proofs.over.body_over.Goals as goal

pub summed_over-requires : goal.summed_over-requires
summed_over-requires c =
    record { room = subst (λ (h : Header). HaveRoom h (length c.args.values.now) (length c.args.mask.now)) (sym c.in-Ok.ensures.ok.1) c.requires.room }

pub returns-in-Ok-clause-ok : goal.returns-in-Ok-clause-ok
returns-in-Ok-clause-ok c =
    subst (λ (blob : List ℕ). OnOk c.summed_over.result ((r : Pixels) × (Blob blob r × HoldRaster r c.summed_over.new.values c.summed_over.new.mask))) c.in-Ok.ensures.ok.0 c.summed_over.ensures.ok

pub returns-in-Ok-clause-fault : goal.returns-in-Ok-clause-fault
returns-in-Ok-clause-fault c =
    let is = c.in-Ok.ensures.ok in
    let same : (IfErr c.summed_over.result (IsFaultIn (blob_faults None c.in-Ok.summed.header c.in-Ok.summed.bytes.now)))
    ≡ (IfErr c.summed_over.result (IsFaultIn (blob_faults None c.args.header.now c.args.blob.now))) =
    λ i. IfErr c.summed_over.result (IsFaultIn (blob_faults None (is.1 i) (is.0 i))) in
    subst (λ (T : Type 0). T) same c.summed_over.ensures.fault

pub returns-in-Err-clause-fault : goal.returns-in-Err-clause-fault
returns-in-Err-clause-fault c = c.in-Err.ensures.fault None
