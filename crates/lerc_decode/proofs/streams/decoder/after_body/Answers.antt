use Rattle.std.proofs.Common.{subst}
use Rattle.lerc_grammar.specs.Blob.{blob_faults}
use Rattle.lerc_decode.specs.inside.Body.{IsStopOf}
use Rattle.lerc_decode.proofs.Steps.{whole_done, whole_wrong}
use Rattle.lerc_decode.proofs.streams.decoder.after_body.Goals as goal

pub returns-in-Ok-clause-sound : goal.returns-in-Ok-clause-sound
returns-in-Ok-clause-sound c = whole_done c.args.before.now c.args.blob.now c.in-Ok.raster c.args.header c.requires.head c.requires.size c.in-Ok.ensures.ok

pub returns-in-Err-Fault-clause-sound : goal.returns-in-Err-Fault-clause-sound
returns-in-Err-Fault-clause-sound c =
    whole_wrong c.args.before.now c.args.blob.now c.args.header c.in-Err-Fault.fault.place c.in-Err-Fault.fault.reason c.requires.head c.requires.size (subst (IsStopOf (blob_faults c.args.before.now c.args.header c.args.blob.now)) c.in-Err-Fault.field-0-is c.in-Err-Fault.ensures.fault)
