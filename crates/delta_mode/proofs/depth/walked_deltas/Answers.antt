use Rattle.std.proofs.Common.{◌≡◌, ◌+◌, ◌-◌, ◌*◌, subst, sym, ◌∙◌, arith}
use Rattle.std.proofs.lemmas.Bool.{eqb-true}
use Rattle.raster_values.specs.Flat.{value_in}
use Rattle.delta_mode.specs.Deltas.{is_valid}
use Rattle.delta_mode.specs.inside.Pieces.{IsFilled}
use Rattle.delta_mode.proofs.FullPieces.{filled_whole, none_whole, row_some}
use Rattle.delta_mode.proofs.WholeDepth.{at_first}
use Rattle.delta_mode.proofs.depth.walked_deltas.Goals as goal

pub write_marked-requires-clause-within : goal.write_marked-requires-clause-within
write_marked-requires-clause-within g c = row_some (g.V.View.pixels c.args.plane.now.raster.now) c.kind-kind.ensures.sound

pub write_marked-requires-clause-at : goal.write_marked-requires-clause-at
write_marked-requires-clause-at g c =
    let r = g.V.View.pixels c.args.plane.now.raster.now in
    at_first (is_valid r) (value_in r c.args.plane.now.d) _ _ _ c.start.ensures.left c.start.ensures.last c.start.ensures.count

pub returns-then-is_empty : goal.returns-then-is_empty
returns-then-is_empty g c = none_whole (g.V.View.pixels c.args.plane.now.raster.now) c.kind-kind.ensures.sound c.args.plane.now.d c.args.out.now c.requires.count (eqb-true _ _ (sym c.is_empty.ensures ∙ c.if-is_empty.true))

pub returns : goal.returns
returns g c =
    let r = g.V.View.pixels c.args.plane.now.raster.now in
    let w = c.write_marked.ensures in
    let none : c.start.result.count ≡ 0 = c.start.ensures.count in
    filled_whole r c.kind-kind.ensures.sound c.args.plane.now.d (0 + c.write_marked.result.1) (c.write_marked.result.0.count - c.start.result.count) c.write_marked.new.out w.within w.symbols
    (omega (arith, w.few, none, c.write_marked.auto.out)) (c.write_marked.auto.out ∙ c.requires.count)
    (subst (λ m. IsFilled (r.rows * r.cols) (0 + c.write_marked.result.1) 1 (c.write_marked.result.0.count - c.start.result.count) m) (sym c.write_marked.auto.out) w.full)
