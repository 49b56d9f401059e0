use Rattle.std.proofs.Common.{refl, sym, subst, inl, inr, Result}
use Rattle.std.specs.Prelude.{IfErr}
use Rattle.lerc_header.specs.declared.header.Version.{Version}
use Rattle.lerc_header.specs.declared.header.Version.TheVariants.{V3, V4}
use Rattle.lerc_header.specs.declared.fault.BlobFault.{BlobFault}
use Rattle.lerc_header.specs.HeadFaults.{HasVersion, key_faults}
use Rattle.lerc_header.proofs.Exits.{none_of}
use Rattle.lerc_header.proofs.reading.key_of.Goals as goal

pub returns-in-None-clause-fault : goal.returns-in-None-clause-fault
returns-in-None-clause-fault c =
    let none = none_of (HasVersion c.args.bytes.now) c.in-None.ensures in
    subst (λ (r : Result Version BlobFault). IfErr r (λ f. key_faults c.args.bytes.now f.place f.reason)) (sym c.refuse-in-None.ensures)
    (inl (c.has_key.ensures.0 c.if-not-has_key.false, inr (none V3, inr (none V4, (refl, refl)))))
