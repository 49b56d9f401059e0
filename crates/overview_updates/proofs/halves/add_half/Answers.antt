use Rattle.overview_updates.specs.inside.Fours.{IsHalved}
use Rattle.overview_updates.proofs.halves.add_half.Goals as goal

pub returns : goal.returns
returns c =
    let is : IsHalved c.args.version c.args.four.now c.in_ok-next.next = record { says = c.in_ok-next.ensures.says; fits = c.in_ok-next.ensures.fits } in
    (c.in_ok-next.next, (is, c.in_ok-push.ensures.items))
