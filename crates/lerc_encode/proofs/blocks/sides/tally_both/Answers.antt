use Rattle.std.proofs.Common.{All, map, sym, ap, subst, take}
use Rattle.raster_cells.specs.PixelType.{InRange}
use Rattle.raster_cells.specs.Distance.{IsDistance, value_above}
use Rattle.lerc_header.specs.declared.header.Header.{Header}
use Rattle.lerc_encode.specs.inside.Sides.{four_values}
use Rattle.lerc_encode.proofs.SideWalks.{four_fit, other_values, side_blocked, spot_in_both}
use Rattle.lerc_encode.proofs.Wholes.{whole_length, whole_table}
use Rattle.lerc_encode.proofs.blocks.sides.tally_both.Goals as goal

pub invariant_of-large-clause-blocked : goal.invariant_of-large-clause-blocked
invariant_of-large-clause-blocked g c =
    let s = c.args.sides.now in
    side_blocked s.small.now s.large.now (g.V.View.pixels s.raster.now) s.blocked c.requires.sixteen

pub tally_parts-requires-clause-within : goal.tally_parts-requires-clause-within
tally_parts-requires-clause-within g c =
    let s = c.args.sides.now in
    (spot_in_both s.small.now s.large.now (g.V.View.pixels s.raster.now) s.blocked c.requires.sixteen c.args.block.k c.requires.within c.args.block.spot c.requires.spot).0

pub tally_parts-requires-clause-part : goal.tally_parts-requires-clause-part
tally_parts-requires-clause-part g c =
    let s = c.args.sides.now in
    let there = spot_in_both s.small.now s.large.now (g.V.View.pixels s.raster.now) s.blocked c.requires.sixteen c.args.block.k c.requires.within c.args.block.spot c.requires.spot in
    record { side = s.eight; row = there.1.0; col = there.1.1; depth = there.0.depth }

pub tally_block-requires-clause-fit : goal.tally_block-requires-clause-fit
tally_block-requires-clause-fit g c =
    let gathered = c.tally_parts.new.gathered in
    subst (λ (x : Header). All (IsDistance x.kind) (take gathered.count gathered.distances)) (sym c.requires.sixteen) c.tally_parts.ensures.gathered.fit

pub tally_block-requires-clause-values : goal.tally_block-requires-clause-values
tally_block-requires-clause-values g c =
    let s = c.args.sides.now in
    let r = (g.V.View.pixels s.raster.now) in
    let gathered = c.tally_parts.new.gathered in
    let are = other_values s.small.now s.large.now (take gathered.count gathered.distances) (four_values r c.args.block.spot) c.requires.sixteen c.tally_parts.ensures.are in
    subst (All (InRange s.large.now.kind)) (sym are) (four_fit s.large.now r (side_blocked s.small.now s.large.now r s.blocked c.requires.sixteen) c.args.block.spot)

pub tally_block-requires-clause-long : goal.tally_block-requires-clause-long
tally_block-requires-clause-long g c =
    let s = c.args.sides.now in
    let r = (g.V.View.pixels s.raster.now) in
    let gathered = c.tally_parts.new.gathered in
    let spot = c.args.block.spot in
    let are = other_values s.small.now s.large.now (take gathered.count gathered.distances) (four_values r spot) c.requires.sixteen c.tally_parts.ensures.are in
    whole_length s.large.now r spot spot.col (map (value_above s.large.now.kind) (take gathered.count gathered.distances)) (ap (λ (x : Header). x.side) c.requires.sixteen) are

pub tally_block-requires-clause-table : goal.tally_block-requires-clause-table
tally_block-requires-clause-table g c =
    let s = c.args.sides.now in
    let r = (g.V.View.pixels s.raster.now) in
    let gathered = c.tally_parts.new.gathered in
    let spot = c.args.block.spot in
    let are = other_values s.small.now s.large.now (take gathered.count gathered.distances) (four_values r spot) c.requires.sixteen c.tally_parts.ensures.are in
    whole_table s.large.now r spot spot.col (map (value_above s.large.now.kind) (take gathered.count gathered.distances)) (ap (λ (x : Header). x.side) c.requires.sixteen) are

pub returns-clause-small : goal.returns-clause-small
returns-clause-small g c = c.tally_parts.ensures.tallied

pub returns-clause-large : goal.returns-clause-large
returns-clause-large g c =
    let block = c.tally_block.ensures in
    record { size = block.size; tables = block.tables; flagged = block.this }
