use Rattle.std.proofs.Common.{refl}
use Rattle.lerc_cli.proofs.InputLemmas.WholeReads.{stopped_output}
use Rattle.lerc_cli.proofs.commands.decode.decode.Goals as goal

pub returns-in-Err-clause-output : goal.returns-in-Err-clause-output
returns-in-Err-clause-output g c = λ files. stopped_output _ g.K.Sink.held g.K.Sink.faults _ _ _ files c.in-Err.stop refl c.in-Err.ensures.bands
