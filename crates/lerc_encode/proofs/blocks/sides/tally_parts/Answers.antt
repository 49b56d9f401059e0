use Rattle.std.proofs.Common.{◌+◌, ◌++◌, List, ap, ◌∙◌, arith}
use Rattle.std.specs.Prelude.{ℤ}
use Rattle.raster_values.specs.Block.{block_values}
use Rattle.lerc_encode.specs.declared.blocks.chosen_blocks.BlockAt.{BlockAt}
use Rattle.lerc_encode.specs.inside.Sides.{below, corner, right_of, size_at}
use Rattle.lerc_encode.proofs.SideSteps.{flag_stays, two_flags, two_more}
use Rattle.lerc_encode.proofs.SideWalks.{spot_few}
use Rattle.lerc_encode.proofs.blocks.sides.tally_parts.Goals as goal

pub overflow_add-right : goal.overflow_add-right
overflow_add-right g c =
    let low = (spot_few c.args.walk.now.header.now (g.V.View.pixels c.args.walk.now.raster.now) c.args.spot c.args.walk.now.blocked c.requires.within).1 in
    omega (arith, low)

pub overflow_add-below : goal.overflow_add-below
overflow_add-below g c =
    let low = (spot_few c.args.walk.now.header.now (g.V.View.pixels c.args.walk.now.raster.now) c.args.spot c.args.walk.now.blocked c.requires.within).0 in
    omega (arith, low)

pub overflow_add-corner : goal.overflow_add-corner
overflow_add-corner g c =
    let low = (spot_few c.args.walk.now.header.now (g.V.View.pixels c.args.walk.now.raster.now) c.args.spot c.args.walk.now.blocked c.requires.within).0 in
    omega (arith, low)

pub overflow_add-corner-2 : goal.overflow_add-corner-2
overflow_add-corner-2 g c =
    let low = (spot_few c.args.walk.now.header.now (g.V.View.pixels c.args.walk.now.raster.now) c.args.spot c.args.walk.now.blocked c.requires.within).1 in
    omega (arith, low)

-- the four calls, each behind the one before
pub returns-clause-are : goal.returns-clause-are
returns-clause-are g c =
    let r = (g.V.View.pixels c.args.walk.now.raster.now) in
    let spot = c.args.spot in
    c.tally_behind-4.ensures.are
    ∙ ap (λ (vs : List ℤ). vs ++ block_values r (spot.row + 8) (spot.col + 8) 8 spot.d) (c.tally_behind-3.ensures.are
    ∙ ap (λ (vs : List ℤ). vs ++ block_values r (spot.row + 8) spot.col 8 spot.d) (c.tally_behind-2.ensures.are
    ∙ ap (λ (vs : List ℤ). vs ++ block_values r spot.row (spot.col + 8) 8 spot.d) c.tally_behind.ensures.are))

pub returns-clause-tallied : goal.returns-clause-tallied
returns-clause-tallied g c =
    let h = c.args.walk.now.header.now in
    let r = (g.V.View.pixels c.args.walk.now.raster.now) in
    let spot = c.args.spot in
    let most = c.args.walk.now.most in
    let s = λ (x : BlockAt). size_at h r x in
    let t0 = c.args.tally.now in
    let t1 = c.tally_behind.new.tally in
    let t2 = c.tally_behind-2.new.tally in
    let t3 = c.tally_behind-3.new.tally in
    let t4 = c.tally_behind-4.new.tally in
    let first = c.tally_behind.ensures.tallied in
    let second = c.tally_behind-2.ensures.tallied in
    let third = c.tally_behind-3.ensures.tallied in
    let last = c.tally_behind-4.ensures.tallied in
    let two = two_more most (s (below spot)) (s (corner spot)) t2.size t3.size t4.size third.size last.size in
    let three = two_more most (s (right_of spot)) (s (below spot) + s (corner spot)) t1.size t2.size t4.size second.size two in
    let from2 = two_flags h r t2.tables t3.tables t4.tables third.tables last.tables in
    let from1 = two_flags h r t1.tables t2.tables t4.tables second.tables from2 in
    record {
      size = two_more most (s spot) (s (right_of spot) + (s (below spot) + s (corner spot))) t0.size t1.size t4.size first.size three;
      tables = two_flags h r t0.tables t1.tables t4.tables first.tables from1;
      flagged = λ le.
          let le3 = (last.size.within le).0 in
          let le2 = (third.size.within le3).0 in
          let le1 = (second.size.within le2).0 in
          record {
            first = flag_stays h r spot t1.tables t4.tables from1 (first.flagged le1);
            right = flag_stays h r (right_of spot) t2.tables t4.tables from2 (second.flagged le2);
            under = flag_stays h r (below spot) t3.tables t4.tables last.tables (third.flagged le3);
            last = last.flagged le;
          };
    }
