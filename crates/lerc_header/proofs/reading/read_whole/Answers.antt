use Rattle.std.proofs.Common.{inl, arith}
use Rattle.lerc_header.specs.declared.fault.BlobFault.{BlobFault}
use Rattle.lerc_header.specs.HeadFaults.{field_faults, whole_faults}
use Rattle.lerc_header.proofs.ReadParts.{if_err}
use Rattle.lerc_header.proofs.reading.read_whole.Goals as goal

pub returns-clause-fault : goal.returns-clause-fault
returns-clause-fault c =
    if_err (λ (f : BlobFault). field_faults c.args.version c.args.bytes.now f.place f.reason) (λ (f : BlobFault). whole_faults c.args.version c.args.bytes.now f.place f.reason)
    c.read_fields.result (λ f w. inl (omega (arith, c.if-bytes-head_length.false, c.head_length.ensures), w)) c.read_fields.ensures.fault
