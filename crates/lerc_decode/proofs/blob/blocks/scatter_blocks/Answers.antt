use Rattle.std.proofs.Common.{subst, sym, arith}
use Rattle.std.specs.Prelude.{IfErr}
use Rattle.first_fault.specs.Faults.{moved}
use Rattle.raster_values.specs.Flat.{marks_of}
use Rattle.lerc_grammar.specs.Blocks.{blocks_faults}
use Rattle.lerc_decode.specs.inside.Body.{IsFaultIn}
use Rattle.lerc_decode.specs.inside.Maxima.{top_in}
use Rattle.lerc_decode.proofs.BlockReading.{all_stand, bytes_behind_blocks}
use Rattle.lerc_decode.proofs.blob.blocks.scatter_blocks.Goals as goal

pub invariant_of-blocks : goal.invariant_of-blocks
invariant_of-blocks g c = record {
  topped = record {
    head = record { side_above = c.requires.side; side_below = omega arith; shape = c.requires.head; step = c.requires.step };
    maxima_of = c.requires.maxima;
  };
}

pub returns-in-Ok-clause-fault : goal.returns-in-Ok-clause-fault
returns-in-Ok-clause-fault g c =
    let h = c.args.header.now in
    subst (λ r. IfErr r (IsFaultIn (moved c.args.place (blocks_faults h (marks_of (g.T.Target.pixels c.args.raster.now)) (top_in h c.args.maxima.now) c.args.rest.now)))) (sym c.refuse-in-Ok.ensures)
    (bytes_behind_blocks h (marks_of (g.T.Target.pixels c.args.raster.now)) c.args.maxima.now c.args.rest.now c.args.place c.in-Ok.at (g.T.Target.pixels c.read_rows.new.raster) (omega arith) c.if-at-rest.true c.in-Ok.ensures.ok)

pub returns-in-Ok-2-clause-ok : goal.returns-in-Ok-2-clause-ok
returns-in-Ok-2-clause-ok g c =
    all_stand c.args.header.now (marks_of (g.T.Target.pixels c.args.raster.now)) c.args.maxima.now c.args.rest.now c.in-Ok.at (g.T.Target.pixels c.read_rows.new.raster) (omega arith) c.if-at-rest.false c.in-Ok.ensures.ok
