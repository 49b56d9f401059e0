use Rattle.std.proofs.Common.{◌++◌, ◌∷◌, [], ◌∙◌, sym, ap, subst, arith, take}
use Rattle.std.proofs.lemmas.List.{append_assoc, take_all}
use Rattle.tile_audit.specs.Gave.{AreTotals}
use Rattle.tile_audit.proofs.Joins.{take_next}
use Rattle.tile_audit.proofs.totals.Totals.with_tiles.Goals as goal

pub loop-tile-preserved : goal.loop-tile-preserved
loop-tile-preserved c =
    let i = c.loop-tile.tile-index in
    let tiles = c.args.tiles.now in
    let next = take_next tiles i c.tile-item.result c.loop-tile-test.true c.tile-item.is in (
      omega (arith, c.loop-tile.invariant.0, c.with_tile-totals.ensures.tiles),
      λ before are.
          subst (λ l. AreTotals l c.with_tile-totals.result) (append_assoc before (take i tiles) (c.tile-item.result ∷ []) ∙ ap (λ l. before ++ l) (sym next))
          (c.with_tile-totals.ensures.totals (before ++ take i tiles) (c.loop-tile.invariant.1 before are)),
    )

pub returns : goal.returns
returns c = λ before are.
    subst (λ l. AreTotals (before ++ l) c.loop-tile.totals) (take_all c.loop-tile.tile-index c.args.tiles.now c.loop-tile-test.false) (c.loop-tile.invariant.1 before are)
