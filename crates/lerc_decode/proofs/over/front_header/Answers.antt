use Rattle.lerc_grammar.proofs.Verdicts.{no_key_fault}
use Rattle.lerc_decode.proofs.over.front_header.Goals as goal

pub returns-in-Err-clause-none : goal.returns-in-Err-clause-none
returns-in-Err-clause-none c = λ h head. no_key_fault c.args.blob.now h head c.in-Err.fault.place c.in-Err.fault.reason c.in-Err.ensures.fault
