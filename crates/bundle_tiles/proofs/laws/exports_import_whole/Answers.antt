use Rattle.bundle_tiles.proofs.Packed.{import_whole, one_map}
use Rattle.bundle_tiles.proofs.laws.exports_import_whole.Goals as goal

pub returns-clause-whole : goal.returns-clause-whole
returns-clause-whole c = import_whole

pub returns-clause-one : goal.returns-clause-one
returns-clause-one c = one_map
