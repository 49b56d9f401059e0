use Rattle.std.proofs.Common.{◌≤◌, length, refl, sym, subst}
use Rattle.lerc_header.specs.declared.header.Version.{Version}
use Rattle.lerc_grammar.specs.declared.bands.BandsFault.{BandsFault}
use Rattle.lerc_grammar.proofs.BlobPlaces.{header_within}
use Rattle.tile_audit.specs.Sums.{FloatFault, IsFloatHead, in_head, of_wholes}
use Rattle.tile_audit.proofs.Floats.{version_of}
use Rattle.tile_audit.proofs.sums.float_size.Goals as goal

pub summed_size-requires : goal.summed_size-requires
summed_size-requires c =
    let f = c.in-Err.fault in
    let (v, (at, head)) = version_of c.args.rest.now f.place f.reason ((c.read_header.ensures.fault f).0 c.in-Err.is) c.in-FloatPixels.is in
    record { floats = subst (λ (w : Version). IsFloatHead w c.args.rest.now) (sym (c.version_by.ensures v at)) head }

pub returns-in-Ok-clause-fault : goal.returns-in-Ok-clause-fault
returns-in-Ok-clause-fault c =
    let h = c.in-Ok.header in
    subst (λ (f : BandsFault). FloatFault c.args.rest.now f.place f.reason) (sym c.unlike.ensures) (of_wholes h ((c.read_header.ensures.ok h).0 c.in-Ok.is) (refl, refl))

pub returns-in_default-clause-fault : goal.returns-in_default-clause-fault
returns-in_default-clause-fault c =
    let f = c.in-Err.fault in
    subst (λ (g : BandsFault). FloatFault c.args.rest.now g.place g.reason) (sym c.fault_of.ensures) (in_head f.reason c.in_default.not-FloatPixels ((c.read_header.ensures.fault f).0 c.in-Err.is) refl)

pub returns-in_default-clause-near : goal.returns-in_default-clause-near
returns-in_default-clause-near c =
    let f = c.in-Err.fault in
    subst (λ (g : BandsFault). g.place ≤ length c.args.rest.now) (sym c.fault_of.ensures) (header_within c.args.rest.now f.place f.reason ((c.read_header.ensures.fault f).0 c.in-Err.is))
