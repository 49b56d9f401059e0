use Rattle.raster_values.specs.Flat.{marks_of}
use Rattle.lerc_decode.specs.inside.Blocks.{HasRead, block_number}
use Rattle.lerc_decode.specs.inside.Body.{KeepsFrame}
use Rattle.lerc_decode.proofs.blob.blocks.read_row.Given as goal

abbrev pub invariant-loop-b : goal.invariant-loop-b
invariant-loop-b g l = record {
  frame : KeepsFrame (g.T.Target.pixels l.fn.raster) (g.T.Target.pixels l.raster) (g.T.Target.kept l.fn.raster) (g.T.Target.kept l.raster);
  read : HasRead l.blocks.header.now (marks_of (g.T.Target.pixels l.fn.raster)) l.blocks.maxima.now l.blocks.rest.now (block_number l.blocks.header.now l.a l.b 0) l.at (g.T.Target.pixels l.raster);
}
