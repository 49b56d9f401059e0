use Rattle.outside_io.specs.Present.{only_settled}
use Rattle.outside_io.proofs.VolumeLemmas.Images.{settled_image}
use Rattle.outside_io.proofs.laws.settled_has_one_image.Goals as goal

pub returns-clause-image : goal.returns-clause-image
returns-clause-image c = settled_image

pub returns-clause-only : goal.returns-clause-only
returns-clause-only c = only_settled
