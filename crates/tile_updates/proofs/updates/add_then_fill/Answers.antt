use Rattle.std.proofs.Common.{◌-◌, [], ℕ, arith, subst}
use Rattle.std.specs.Prelude.{IfOk}
use Rattle.raster_grids.proofs.Taken.{took_none}
use Rattle.tile_updates.specs.inside.SoFar.{IsFilled}
use Rattle.tile_updates.proofs.Results.{free_of, on_ok}
use Rattle.tile_updates.proofs.updates.add_then_fill.Goals as goal

pub fill-requires-clause-place : goal.fill-requires-clause-place
fill-requires-clause-place g c = omega (arith, c.in-Ok.ensures.place, c.requires.place)

pub returns-in-Err-clause-refused : goal.returns-in-Err-clause-refused
returns-in-Err-clause-refused g c = λ input from s w. c.in-Err.ensures.refused input from (g.S.Source.left c.args.src.now) s w

pub returns-in-Err-clause-some : goal.returns-in-Err-clause-some
returns-in-Err-clause-some g c = ([], took_none (g.S.Source.left c.args.src.now))

pub returns-clause-ok : goal.returns-clause-ok
returns-clause-ok g c = λ input from s w. on_ok c.fill.result _ (c.in-Ok.ensures.ok input from (g.S.Source.left c.args.src.now) s w)

pub returns-clause-place : goal.returns-clause-place
returns-clause-place g c = on_ok c.fill.result _ c.in-Ok.ensures.place

pub returns-clause-filled : goal.returns-clause-filled
returns-clause-filled g c =
    subst (λ (n : ℕ). IfOk c.fill.result (λ r. IsFilled c.args.coding.now.version (1048576 - n) c.add_last.new.done.place (g.S.Source.left c.args.src.now) (g.S.Source.left c.fill.new.src) r.0 r.1)) c.len-room.ensures.value c.fill.ensures.ok

pub returns-clause-refused : goal.returns-clause-refused
returns-clause-refused g c = λ input from s w. free_of c.args.coding.now.version c.args.coding.now.step input c.fill.result c.fill.ensures.free
