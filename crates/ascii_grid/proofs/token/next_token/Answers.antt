use Rattle.std.proofs.Common.{◌∙◌, ap, subst}
use Rattle.ascii_grid.specs.inside.Steps.{Skips}
use Rattle.std.proofs.lemmas.Result.{err_from_is_err_and}
use Rattle.ascii_grid.specs.Tokens.{TokenAt}
use Rattle.ascii_grid.proofs.ReadSteps.{next_cut, next_end, next_over, next_word}
use Rattle.ascii_grid.proofs.token.next_token.Goals as goal

pub returns-in_err-skip_blanks-clause-next : goal.returns-in_err-skip_blanks-clause-next
returns-in_err-skip_blanks-clause-next g c = λ total tokens left.
    let p = err_from_is_err_and c.from_residual.result c.from_residual.ensures.1 in
    rw (p.1, p.2) (next_over _ _ c.args.window.now c.skip_blanks.new.window total tokens c.in_err-skip_blanks.field-0.0 left (c.in_err-skip_blanks.ensures.skipped left.bytes left.ahead))

pub returns-then-not-branch-clause-next : goal.returns-then-not-branch-clause-next
returns-then-not-branch-clause-next g c = λ total tokens left.
    let told = c.in_ok-skip_blanks.ensures.skipped left.bytes left.ahead in
    next_end _ _ c.args.window.now c.skip_blanks.new.window total tokens left (told.0, subst (Skips (g.S.Source.left c.skip_blanks.new.src) c.skip_blanks.new.window c.args.window.now.place left.bytes told.0) c.if-not-branch.true told.1)

pub returns-in_err-take_dark-clause-next : goal.returns-in_err-take_dark-clause-next
returns-in_err-take_dark-clause-next g c = λ total tokens left.
    let p = err_from_is_err_and c.from_residual-in_err-take_dark.result c.from_residual-in_err-take_dark.ensures.1 in
    let told = c.in_ok-skip_blanks.ensures.skipped left.bytes left.ahead in
    let skips = subst (Skips (g.S.Source.left c.skip_blanks.new.src) c.skip_blanks.new.window c.args.window.now.place left.bytes told.0) c.if-not-branch.false told.1 in
    rw (p.1, p.2) (next_cut (g.S.Source.left c.args.src.now) (g.S.Source.left c.skip_blanks.new.src) (g.S.Source.left c.take_dark.new.src) c.args.window.now c.skip_blanks.new.window c.take_dark.new.window total tokens c.in_err-take_dark.field-0.0 c.take_dark.new.token.bytes left (told.0, skips) (c.in_err-take_dark.ensures.taken told.0 skips.ahead))

pub returns-clause-next : goal.returns-clause-next
returns-clause-next g c = λ total tokens left.
    let told = c.in_ok-skip_blanks.ensures.skipped left.bytes left.ahead in
    let skips = subst (Skips (g.S.Source.left c.skip_blanks.new.src) c.skip_blanks.new.window c.args.window.now.place left.bytes told.0) c.if-not-branch.false told.1 in
    let at = c.in_ok-take_dark.ensures.place ∙ ap (λ (t : TokenAt). t.place) c.at-token.ensures ∙ c.place.ensures.value in
    next_word (g.S.Source.left c.args.src.now) (g.S.Source.left c.skip_blanks.new.src) (g.S.Source.left c.take_dark.new.src) c.args.window.now c.skip_blanks.new.window c.take_dark.new.window total tokens c.take_dark.new.token left (told.0, skips) at (c.in_ok-take_dark.ensures.taken told.0 skips.ahead)
