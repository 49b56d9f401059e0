use Rattle.std.proofs.Common.{[], ◌∷◌, true, false, ap, rules}
use Rattle.audit_cli.proofs.Spelled.{fails, neither, no_options, spelled_as}
use Rattle.audit_cli.proofs.words.with_one.Goals as goal

pub returns-then-has_text : goal.returns-then-has_text
returns-then-has_text c =
    let said = c.if-has_text.ensures.0 (search rules) in
    spelled_as c.args.name.now c.args.workers.now true false (c.args.option.now ∷ []) c.named.result (ap (λ o. o ∷ []) said) c.named.ensures

pub returns-then-has_text-2 : goal.returns-then-has_text-2
returns-then-has_text-2 c =
    let said = c.if-has_text-2.ensures.0 (search rules) in
    spelled_as c.args.name.now c.args.workers.now false true (c.args.option.now ∷ []) c.named-then-has_text-2.result (ap (λ o. o ∷ []) said) c.named-then-has_text-2.ensures

pub returns : goal.returns
returns c =
    no_options c.args.name.now c.args.workers.now (c.args.option.now ∷ [])
    (neither c.args.option.now (λ is. fails c.has_text.result c.if-has_text.false (c.has_text.ensures.1 is)) (λ is. fails c.has_text-2.result c.if-has_text-2.false (c.has_text-2.ensures.1 is)))
