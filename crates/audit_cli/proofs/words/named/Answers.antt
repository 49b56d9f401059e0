use Rattle.std.proofs.Common.{refl}
use Rattle.audit_cli.proofs.Spelled.{named_as, other_name}
use Rattle.audit_cli.proofs.words.named.Goals as goal

pub returns-then-has_text : goal.returns-then-has_text
returns-then-has_text c = named_as c.args.name.now c.args.workers.now c.args.all c.args.strict c.asked_for.result (c.if-has_text.ensures.0 refl) c.asked_for.ensures

pub returns : goal.returns
returns c = other_name c.args.name.now c.args.workers.now c.args.all c.args.strict (λ named. (let bad = c.if-has_text.ensures.1 named in cc))
