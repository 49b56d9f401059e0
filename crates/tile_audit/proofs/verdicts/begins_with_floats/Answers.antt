use Rattle.std.proofs.Common.{◌+◌, refl}
use Rattle.lerc_header.specs.declared.fault.BlobReason.TheVariants.{FloatPixels}
use Rattle.lerc_header.specs.Head.{shift}
use Rattle.lerc_header.proofs.FaultLemmas.{single-header}
use Rattle.tile_audit.proofs.Floats.{floats_of}
use Rattle.tile_audit.proofs.verdicts.begins_with_floats.Goals as goal

pub returns-in-FloatPixels : goal.returns-in-FloatPixels
returns-in-FloatPixels c =
    let f = c.in-Err.fault in
    (λ yes. floats_of c.args.bytes.now f.place f.reason ((c.read_header.ensures.fault f).0 c.in-Err.is) c.in-FloatPixels.is, λ floats. refl)

pub returns-in_default : goal.returns-in_default
returns-in_default c =
    let f = c.in-Err.fault in
    let fault = (c.read_header.ensures.fault f).0 c.in-Err.is in
    (λ false. absurd (let bad : ⊥ = cc in bad), λ floats. absurd (c.in_default.not-FloatPixels (single-header c.args.bytes.now f.place (34 + shift floats.0) f.reason FloatPixels fault floats.1.float).1))
