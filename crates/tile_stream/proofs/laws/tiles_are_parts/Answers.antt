use Rattle.tile_stream.proofs.Decided.{tiles_decided}
use Rattle.tile_stream.proofs.Tiles.{tile_part}
use Rattle.tile_stream.proofs.laws.tiles_are_parts.Goals as goal

pub returns-clause-part : goal.returns-clause-part
returns-clause-part c = tile_part

pub returns-clause-decided : goal.returns-clause-decided
returns-clause-decided c = tiles_decided
