use Rattle.std.proofs.Common.{sym, subst}
use Rattle.std.proofs.lemmas.Result.{IfOk-at_ok}
use Rattle.std.specs.List.{AllZip}
use Rattle.overview_updates.specs.inside.Fours.{IsHalved}
use Rattle.overview_updates.proofs.Zips.{zip_halves}
use Rattle.overview_updates.proofs.halves.+fn-halve-join+arg2+fn-halve-join+arg3+halve.Goals as goal

pub returns : goal.returns
returns g t c =
    let front = c.split_at.result.0.now in
    let back = c.split_at.result.1.now in
    let R = IsHalved c.args.version in
    subst (AllZip R c.args.fours.now) (sym c.in_ok-append.ensures.items)
    (zip_halves R c.args.fours.now front back _ c.in_ok-halves.halves.items c.in_ok-later.later.items c.split_at.ensures.front c.split_at.ensures.back
    (IfOk-at_ok (λ halves. AllZip R front halves.items) c.in_ok-halves.was c.join-these.ensures.first)
    (IfOk-at_ok (λ halves. AllZip R back halves.items) c.in_ok-later.was c.join-these.ensures.second))
