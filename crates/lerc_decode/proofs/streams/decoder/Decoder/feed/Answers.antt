use Rattle.std.proofs.Common.{sym, ◌∙◌, refl}
use Rattle.lerc_decode.proofs.Steps.{told_of, taken_all, all_used, stays, used_all}
use Rattle.lerc_decode.proofs.streams.decoder.Decoder.feed.Goals as goal

pub returns-clause-taken : goal.returns-clause-taken
returns-clause-taken c =
    taken_all c.args.self.now c.feed_key-key.new.self c.feed_fields-fields.new.self c.feed_body-body.new.self c.args.piece.now _ _ _ c.feed_key-key.ensures.taken c.feed_fields-fields.ensures.taken c.feed_body-body.ensures.taken

pub returns-clause-verdict : goal.returns-clause-verdict
returns-clause-verdict c = told_of c.feed_body-body.new.self.before c.feed_body-body.new.self.taken c.feed_body-body.new.self.stage c.feed_body-body.ensures.sound

pub returns-clause-whole : goal.returns-clause-whole
returns-clause-whole c = λ more.
    all_used c.feed_fields-fields.new.self.stage c.args.self.now c.feed_key-key.new.self c.feed_fields-fields.new.self c.feed_body-body.new.self c.args.piece.now c.feed_key-key.result c.feed_fields-fields.result c.feed_body-body.result refl
    c.feed_key-key.ensures.taken.within c.feed_fields-fields.ensures.taken.within c.feed_key-key.ensures.steps c.feed_fields-fields.ensures.steps c.feed_body-body.ensures.steps (sym c.state.ensures.value ∙ more)

pub returns-clause-ended : goal.returns-clause-ended
returns-clause-ended c =
    stays c.args.self.now c.feed_key-key.new.self c.feed_fields-fields.new.self c.feed_body-body.new.self _ _ _ c.feed_key-key.result c.feed_fields-fields.result c.feed_body-body.result c.feed_key-key.ensures.steps c.feed_fields-fields.ensures.steps c.feed_body-body.ensures.steps

pub returns-clause-exact : goal.returns-clause-exact
returns-clause-exact c = λ short.
    used_all c.args.self.now.stage c.args.self.now c.feed_key-key.new.self c.feed_fields-fields.new.self c.feed_body-body.new.self c.args.piece.now c.feed_key-key.result c.feed_fields-fields.result c.feed_body-body.result refl
    c.feed_key-key.ensures.taken.within c.feed_fields-fields.ensures.taken.within c.feed_body-body.ensures.taken.within
    c.feed_key-key.ensures.steps (c.feed_key-key.ensures.exact short) c.feed_fields-fields.ensures.steps c.feed_fields-fields.ensures.exact c.feed_body-body.ensures.steps c.feed_body-body.ensures.exact short
