use Rattle.lerc_decode.proofs.Steps.{stood}
use Rattle.lerc_decode.proofs.streams.decoder.Decoder.state.Goals as goal

pub returns-in-Refused-clause-sound : goal.returns-in-Refused-clause-sound
returns-in-Refused-clause-sound c = stood c.self.inside c.args.self.now c.self.view_is c.self.invariant
