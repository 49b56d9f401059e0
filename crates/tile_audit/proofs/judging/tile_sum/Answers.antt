use Rattle.std.proofs.Common.{ap, ◌∙◌}
use Rattle.lerc_header.specs.Checksum.{sum_of}
use Rattle.tile_audit.proofs.Shapes.{tail_of}
use Rattle.tile_audit.proofs.judging.tile_sum.Goals as goal

pub returns : goal.returns
returns c = c.checksum.ensures ∙ ap sum_of (tail_of c.args.bytes.now c.min.result c.min.ensures)
