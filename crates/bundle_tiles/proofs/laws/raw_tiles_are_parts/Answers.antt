use Rattle.bundle_tiles.proofs.RawDecided.{raw_decided}
use Rattle.bundle_tiles.proofs.RawTiles.{raw_part}
use Rattle.bundle_tiles.proofs.laws.raw_tiles_are_parts.Goals as goal

pub returns-clause-part : goal.returns-clause-part
returns-clause-part c = raw_part

pub returns-clause-decided : goal.returns-clause-decided
returns-clause-decided c = raw_decided
