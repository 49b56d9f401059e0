use Rattle.raster_values.proofs.BlockLaws.{itself, one}
use Rattle.raster_values.proofs.laws.scattering_is_one.Goals as goal

pub returns : goal.returns
returns c = record { itself = itself; one = one }
