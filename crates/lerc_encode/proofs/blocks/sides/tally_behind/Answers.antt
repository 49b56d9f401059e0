use Rattle.std.proofs.Common.{arith, subst}
use Rattle.std.specs.Prelude.{IsTrue}
use Rattle.raster_values.specs.Block.{block_values}
use Rattle.lerc_encode.proofs.SideSteps.{are_behind, fit_behind, named_behind}
use Rattle.lerc_encode.proofs.blocks.sides.tally_behind.Goals as goal
use Rattle.lerc_encode.proofs.blocks.sides.tally_behind.Goals.{then-were_known, else-were_known}

pub returns-clause-gathered : goal.returns-clause-gathered
returns-clause-gathered g c =
    let room = c.requires.room in
    let old = c.args.gathered.now in
    let part = c.tally_part-n in
    record {
      fit = fit_behind c.args.walk.now.header.now.kind old.distances part.new.distances old.count part.result (omega (arith, room)) c.requires.gathered.fit part.ensures.fit;
      named = elim c.if-were_known.branch [
        | then-were_known w ↦ (λ told. named_behind old.names part.new.names old.distances old.found part.new.distances part.new.found old.count part.result (omega (arith, room)) (omega arith) part.ensures.kept (c.requires.gathered.named w.if-were_known.true) (part.ensures.known (subst IsTrue w.known-is told)))
        | else-were_known w ↦ (λ told. absurd (let none = subst IsTrue w.known-is told in cc))
      ];
    }

pub returns-clause-are : goal.returns-clause-are
returns-clause-are g c =
    let room = c.requires.room in
    let spot = c.args.spot in
    let old = c.args.gathered.now in
    are_behind c.args.walk.now.header.now.kind old.distances c.tally_part-n.new.distances old.count c.tally_part-n.result (block_values (g.V.View.pixels c.args.walk.now.raster.now) spot.row spot.col 8 spot.d) (omega (arith, room)) c.tally_part-n.ensures.are

pub returns-clause-tallied : goal.returns-clause-tallied
returns-clause-tallied g c =
    let part = c.tally_part-n.ensures in
    record { size = part.size; tables = part.tables; flagged = part.this }
