use Rattle.std.proofs.Common.{All, sym, subst, arith}
use Rattle.raster_cells.specs.declared.kind.PixelType.{PixelType}
use Rattle.raster_cells.specs.PixelType.{InRange}
use Rattle.lerc_encode.specs.inside.Blocked.{values_at}
use Rattle.lerc_encode.proofs.Blocking.{block_fits}
use Rattle.lerc_encode.proofs.Quarters.{below_all, beside_all}
use Rattle.lerc_encode.proofs.blocks.sides.tally_part.Goals as goal
use Rattle.lerc_encode.proofs.blocks.sides.tally_part.Goals.{then-spot-h-via-then-spot-h, then-spot-h-via-else-spot-h+then-spot-h-2}

pub returns-then-spot-h-clause-are : goal.returns-then-spot-h-clause-are
returns-then-spot-h-clause-are g c =
    let r = (g.V.View.pixels c.args.walk.now.raster.now) in
    let spot = c.args.spot in
    let rows = c.args.walk.now.blocked.rows in
    let cols = c.args.walk.now.blocked.cols in
    elim c.then-spot-h.branch [
      | then-spot-h-via-then-spot-h w ↦ (let past = w.if-spot-h.true in sym (below_all r spot.row spot.col 8 spot.d (omega (arith, rows, past))))
      | then-spot-h-via-else-spot-h+then-spot-h-2 w ↦ (let past = w.if-spot-h-2.true in sym (beside_all r spot.row spot.col 8 spot.d (omega (arith, cols, past))))
    ]

pub tally_block-requires-clause-values : goal.tally_block-requires-clause-values
tally_block-requires-clause-values g c =
    let h = c.args.walk.now.header.now in
    let r = (g.V.View.pixels c.args.walk.now.raster.now) in
    let spot = c.args.spot in
    let is = c.args.walk.now.blocked in
    subst (All (InRange h.kind)) (sym c.gather-n.ensures.are)
    (subst (λ (t : PixelType). All (InRange t) (values_at h r spot)) (sym is.kind) (block_fits r is.sound spot.row spot.col h.side spot.d))
