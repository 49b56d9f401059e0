use Rattle.sample_tiles.proofs.Drawing.{none_drawn}
use Rattle.sample_tiles.proofs.draw.empty_tile.Goals as goal

pub returns-in-Ok : goal.returns-in-Ok
returns-in-Ok c = none_drawn c.in-Ok.tile c.in-Ok.ensures.ok
