use Rattle.std.proofs.Common.{◌∙◌, ◌+◌, ◌*◌, sym, arith}
use Rattle.lerc_decode.specs.inside.Blocks.{block_number}
use Rattle.lerc_decode.proofs.BlockReading.{read_then, same_count}
use Rattle.lerc_decode.proofs.Filling.{frame_then, same_frame, shaped_then}
use Rattle.lerc_decode.proofs.blob.blocks.read_depths.Goals as goal

pub read_one-requires-clause-count : goal.read_one-requires-clause-count
read_one-requires-clause-count g c =
    let side = c.args.blocks.now.header.now.side in
    c.loop-d.auto.numbers ∙ c.requires.count ∙ sym (same_count (g.T.Target.pixels c.args.raster.now) (g.T.Target.pixels c.loop-d.raster) (c.args.a * side) (c.args.b * side) side c.loop-d.invariant.frame.marks)

pub read_one-requires-clause-shaped : goal.read_one-requires-clause-shaped
read_one-requires-clause-shaped g c =
    shaped_then c.args.blocks.now.header.now (g.T.Target.pixels c.args.raster.now) (g.T.Target.pixels c.loop-d.raster) c.requires.shaped c.loop-d.invariant.frame

pub loop-d-init : goal.loop-d-init
loop-d-init g c = record { frame = same_frame _ _ c.requires.shaped.raster; read = c.requires.read }

pub loop-d-preserved : goal.loop-d-preserved
loop-d-preserved g c =
    let h = c.args.blocks.now.header.now in
    let inv = c.loop-d.invariant in
    let done = c.in_ok-at.ensures in
    record {
      frame = frame_then inv.frame done.frame;
      read = read_then h (g.T.Target.pixels c.args.raster.now) (g.T.Target.pixels c.loop-d.raster) (g.T.Target.pixels c.read_one.new.raster) c.args.blocks.now.maxima.now c.args.blocks.now.rest.now (block_number h c.args.a c.args.b c.loop-d.d + 1) (block_number h c.args.a c.args.b (c.loop-d.d + 1)) _ inv.frame.marks (omega arith) done.ok;
    }

pub returns-in_err-at-clause-frame : goal.returns-in_err-at-clause-frame
returns-in_err-at-clause-frame g c = frame_then c.loop-d.invariant.frame c.in_err-at.ensures.frame
