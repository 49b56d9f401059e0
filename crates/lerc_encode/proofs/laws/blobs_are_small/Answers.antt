use Rattle.lerc_encode.proofs.Small.{small}
use Rattle.lerc_encode.proofs.BandsSmall.{bands_small, tiles_small}
use Rattle.lerc_encode.proofs.laws.blobs_are_small.Goals as goal

pub returns-clause-blobs : goal.returns-clause-blobs
returns-clause-blobs c = small

pub returns-clause-bands : goal.returns-clause-bands
returns-clause-bands c = bands_small

pub returns-clause-tiles : goal.returns-clause-tiles
returns-clause-tiles c = tiles_small
