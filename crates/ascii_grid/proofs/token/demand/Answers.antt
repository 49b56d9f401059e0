use Rattle.std.proofs.lemmas.Result.{err_from_is_err_and}
use Rattle.ascii_grid.proofs.ReadSteps.{owed_ended, owed_stopped, owed_taken}
use Rattle.ascii_grid.proofs.token.demand.Goals as goal

pub returns-in_err-token-clause-next : goal.returns-in_err-token-clause-next
returns-in_err-token-clause-next g c = λ total tokens left.
    let p = err_from_is_err_and c.from_residual.result c.from_residual.ensures.1 in
    rw (p.1, p.2) (owed_stopped _ _ total tokens c.in_err-token.field-0.0 (c.in_err-token.ensures.next total tokens left))

pub returns-in-Some-clause-next : goal.returns-in-Some-clause-next
returns-in-Some-clause-next g c = λ total tokens left.
    let told = rw c.in-Some.is at (c.in_ok-token.ensures.next total tokens left) in
    owed_taken _ _ total tokens c.in-Some.token told

pub returns-in-None-clause-next : goal.returns-in-None-clause-next
returns-in-None-clause-next g c = λ total tokens left.
    let told = rw c.in-None.is at (c.in_ok-token.ensures.next total tokens left) in
    owed_ended _ _ _ total c.place.result tokens c.stop.result told c.place.ensures.value c.stop.ensures
