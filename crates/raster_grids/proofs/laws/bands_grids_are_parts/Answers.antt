use Rattle.raster_grids.proofs.BandsGridLaws.{bands_grids_are_parts as are_parts, grids_are_of_bands, written_bands}
use Rattle.raster_grids.proofs.BandsGridDecided.{bands_grids_are_decided}
use Rattle.raster_grids.proofs.laws.bands_grids_are_parts.Goals as goal

pub returns-clause-bands : goal.returns-clause-bands
returns-clause-bands c = grids_are_of_bands

pub returns-clause-written : goal.returns-clause-written
returns-clause-written c = written_bands

pub returns-clause-part : goal.returns-clause-part
returns-clause-part c = are_parts

pub returns-clause-decided : goal.returns-clause-decided
returns-clause-decided c = bands_grids_are_decided
