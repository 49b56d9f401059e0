use Rattle.std.proofs.Common.{◌+◌, refl}
use Rattle.lerc_decode.specs.inside.Blocks.{block_number}
use Rattle.lerc_decode.proofs.BlockReading.{read_then}
use Rattle.lerc_decode.proofs.Filling.{frame_then, shaped_then}
use Rattle.lerc_decode.proofs.blob.blocks.read_rows.Goals as goal

pub read_row-requires-clause-shaped : goal.read_row-requires-clause-shaped
read_row-requires-clause-shaped g c =
    shaped_then c.args.blocks.now.header.now (g.T.Target.pixels c.args.raster.now) (g.T.Target.pixels c.loop-a.raster) c.requires.shaped c.loop-a.invariant.frame

pub loop-a-preserved : goal.loop-a-preserved
loop-a-preserved g c =
    let h = c.args.blocks.now.header.now in
    let inv = c.loop-a.invariant in
    let done = c.in_ok-at.ensures in
    record {
      frame = frame_then inv.frame done.frame;
      read = read_then h (g.T.Target.pixels c.args.raster.now) (g.T.Target.pixels c.loop-a.raster) (g.T.Target.pixels c.read_row.new.raster) c.args.blocks.now.maxima.now c.args.blocks.now.rest.now (block_number h (c.loop-a.a + 1) 0 0) (block_number h (c.loop-a.a + 1) 0 0) _ inv.frame.marks refl done.ok;
    }

pub returns-in_err-at-clause-frame : goal.returns-in_err-at-clause-frame
returns-in_err-at-clause-frame g c = frame_then c.loop-a.invariant.frame c.in_err-at.ensures.frame
