use Rattle.raster_values.proofs.BlockLaws.{leaves_others as law}
use Rattle.raster_values.proofs.laws.scattering_leaves_others.Goals as goal

pub returns : goal.returns
returns c = law
