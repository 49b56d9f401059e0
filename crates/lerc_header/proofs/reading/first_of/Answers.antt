use Rattle.std.proofs.Common.{inl, arith}
use Rattle.lerc_header.specs.declared.fault.BlobFault.{BlobFault}
use Rattle.lerc_header.specs.HeadFaults.{whole_faults, header_faults}
use Rattle.lerc_header.proofs.FaultLemmas.{in_key_tests, key_in_tests}
use Rattle.lerc_header.proofs.ReadParts.{handed_on, if_err}
use Rattle.lerc_header.proofs.reading.first_of.Goals as goal

pub returns-in_err-version-clause-fault : goal.returns-in_err-version-clause-fault
returns-in_err-version-clause-fault c =
    let f = c.in_err-version.field-0.0 in
    handed_on (λ (f : BlobFault). header_faults c.args.bytes.now f.place f.reason) c.from_residual.result f c.from_residual.ensures.1
    (inl (omega (arith, c.if-bytes-lt-FRONT_LENGTH.false), key_in_tests (λ v. whole_faults v c.args.bytes.now) c.args.bytes.now f.place f.reason c.in_err-version.ensures.fault))

pub returns-clause-fault : goal.returns-clause-fault
returns-clause-fault c =
    let version = c.in_ok-version.version in
    let is = c.in_ok-version.ensures.ok in
    if_err (λ (f : BlobFault). whole_faults version c.args.bytes.now f.place f.reason) (λ (f : BlobFault). header_faults c.args.bytes.now f.place f.reason)
    c.read_whole.result
    (λ f w. inl (omega (arith, c.if-bytes-lt-FRONT_LENGTH.false), in_key_tests (λ v. whole_faults v c.args.bytes.now) c.args.bytes.now version is.0 is.1 f.place f.reason w))
    c.read_whole.ensures.fault
