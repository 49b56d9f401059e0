use Rattle.lerc_decode.proofs.Steps.{version_there, head_stands, head_wrong}
use Rattle.lerc_decode.proofs.streams.decoder.after_fields.Goals as goal

pub header_at-requires-clause-version : goal.header_at-requires-clause-version
header_at-requires-clause-version c = version_there c.args.head.now c.args.version c.requires.long c.requires.version

pub returns-in-Ok-extend_from_slice-clause-sound : goal.returns-in-Ok-extend_from_slice-clause-sound
returns-in-Ok-extend_from_slice-clause-sound c = λ before. head_stands c.args.head.now c.args.version c.in-Ok.header c.requires.long c.requires.version c.in-Ok.ensures.ok

pub returns-in-Err-clause-sound : goal.returns-in-Err-clause-sound
returns-in-Err-clause-sound c = λ before. head_wrong before c.args.head.now c.args.version _ _ c.requires.long c.requires.key c.requires.version c.in-Err.ensures.fault
