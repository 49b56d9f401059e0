use Rattle.std.proofs.Common.{sym, subst}
use Rattle.std.proofs.lemmas.Result.{IfOk-at_ok}
use Rattle.std.specs.List.{AllZip}
use Rattle.tile_audit.specs.inside.Waits.{IsTileOf}
use Rattle.tile_audit.proofs.Zips.{zip_halves}
use Rattle.tile_audit.proofs.judging.+fn-judge_all-join+arg2+fn-judge_all-join+arg3+judge_all.Goals as goal

pub returns : goal.returns
returns g t c =
    let front = c.split_at.result.0.now in
    let back = c.split_at.result.1.now in
    subst (AllZip IsTileOf c.args.tiles.now) (sym c.in_ok-append.ensures.items)
    (zip_halves IsTileOf c.args.tiles.now front back _ c.in_ok-told.told.items c.in_ok-later.later.items c.split_at.ensures.front c.split_at.ensures.back
    (IfOk-at_ok (λ told. AllZip IsTileOf front told.items) c.in_ok-told.was c.join-these.ensures.first)
    (IfOk-at_ok (λ told. AllZip IsTileOf back told.items) c.in_ok-later.was c.join-these.ensures.second))
