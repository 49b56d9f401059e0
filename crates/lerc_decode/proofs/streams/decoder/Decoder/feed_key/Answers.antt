use Rattle.std.proofs.Common.{rules, ◌≤◌, length}
use Rattle.lerc_decode.specs.States.{missing_at}
use Rattle.lerc_decode.specs.inside.Steps.{StepsKey, UsesKey}
use Rattle.lerc_decode.proofs.Steps.{stood, takes_nothing}
use Rattle.lerc_decode.proofs.streams.decoder.Decoder.feed_key.Goals as goal

pub returns-in_default : goal.returns-in_default
returns-in_default c =
    let d = c.args.self.now in
    let steps : StepsKey d.stage d d c.args.piece.now 0 = search rules in
    let exact : length c.args.piece.now ≤ missing_at d.stage (length d.taken) → UsesKey d.stage d.stage c.args.piece.now 0 = search rules in
    record {
      taken = takes_nothing d c.args.piece.now;
      steps = steps;
      exact = exact;
      sound = stood c.self.inside d c.self.view_is c.self.invariant;
    }
