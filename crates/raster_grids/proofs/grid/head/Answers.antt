use Rattle.std.proofs.Common.{◌∙◌}
use Rattle.raster_grids.specs.inside.Heads.{letters_with}
use Rattle.raster_grids.proofs.Pack.{same_head}
use Rattle.raster_grids.proofs.grid.head.Goals as goal

pub returns : goal.returns
returns c = c.head_with.ensures ∙ same_head (letters_with c.args.letter) c.kind.ensures.value c.rows.ensures.value c.cols.ensures.value c.depth.ensures.value
