use Rattle.std.proofs.Common.{◌+◌, refl}
use Rattle.lerc_decode.specs.inside.Blocks.{block_number}
use Rattle.lerc_decode.proofs.BlockReading.{read_then}
use Rattle.lerc_decode.proofs.Filling.{frame_then, same_frame, shaped_then}
use Rattle.lerc_decode.proofs.blob.blocks.read_row.Goals as goal

pub read_square-requires-clause-shaped : goal.read_square-requires-clause-shaped
read_square-requires-clause-shaped g c =
    shaped_then c.args.blocks.now.header.now (g.T.Target.pixels c.args.raster.now) (g.T.Target.pixels c.loop-b.raster) c.requires.shaped c.loop-b.invariant.frame

pub loop-b-init : goal.loop-b-init
loop-b-init g c = record { frame = same_frame _ _ c.requires.shaped.raster; read = c.requires.read }

pub loop-b-preserved : goal.loop-b-preserved
loop-b-preserved g c =
    let h = c.args.blocks.now.header.now in
    let inv = c.loop-b.invariant in
    let done = c.in_ok-at.ensures in
    record {
      frame = frame_then inv.frame done.frame;
      read = read_then h (g.T.Target.pixels c.args.raster.now) (g.T.Target.pixels c.loop-b.raster) (g.T.Target.pixels c.read_square.new.raster) c.args.blocks.now.maxima.now c.args.blocks.now.rest.now (block_number h c.args.a (c.loop-b.b + 1) 0) (block_number h c.args.a (c.loop-b.b + 1) 0) _ inv.frame.marks refl done.ok;
    }

pub returns-in_err-at-clause-frame : goal.returns-in_err-at-clause-frame
returns-in_err-at-clause-frame g c = frame_then c.loop-b.invariant.frame c.in_err-at.ensures.frame
