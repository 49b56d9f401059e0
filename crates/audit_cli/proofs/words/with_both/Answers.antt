use Rattle.std.proofs.Common.{[], ◌∷◌, true, rules}
use Rattle.audit_cli.proofs.Spelled.{fails, no_options, not_both, spelled_as}
use Rattle.audit_cli.proofs.words.with_both.Goals as goal
use Rattle.audit_cli.proofs.words.with_both.Goals.{else-has_text-via-then-has_text+else-has_text-2, else-has_text-via-else-has_text}

pub returns-then-has_text-2 : goal.returns-then-has_text-2
returns-then-has_text-2 c =
    let one = c.if-has_text.ensures.0 (search rules) in
    let two = c.if-has_text-2.ensures.0 (search rules) in
    spelled_as c.args.name.now c.args.workers.now true true (c.args.first.now ∷ c.args.second.now ∷ []) c.named.result (λ i. one i ∷ two i ∷ []) c.named.ensures

pub returns : goal.returns
returns c =
    no_options c.args.name.now c.args.workers.now (c.args.first.now ∷ c.args.second.now ∷ [])
    (not_both c.args.first.now c.args.second.now
    (λ one two. elim c.else-has_text.branch [
      | else-has_text-via-then-has_text+else-has_text-2 w ↦ fails w.has_text-then-has_text.result w.if-has_text-2.false (w.has_text-then-has_text.ensures.1 two)
      | else-has_text-via-else-has_text w ↦ fails c.has_text.result w.if-has_text.false (c.has_text.ensures.1 one)
    ]))
