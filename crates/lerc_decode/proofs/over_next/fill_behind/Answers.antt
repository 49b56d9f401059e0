use Rattle.std.proofs.Common.{ap}
use Rattle.raster_values.specs.RasterMut.{Frame}
use Rattle.raster_values.proofs.RasterMutArrays.{lent_bytes, lent_raster}
use Rattle.lerc_decode.proofs.over_next.fill_behind.Goals as goal

pub image_of-requires-clause-marked : goal.image_of-requires-clause-marked
image_of-requires-clause-marked c = record {
  shaped = record { raster = lent_raster c.args.lent.now; shape = c.requires.shape };
  valid = c.requires.valid;
}

pub returns-clause-ok : goal.returns-clause-ok
returns-clause-ok c = c.image_of.ensures.ok

pub returns-clause-fault : goal.returns-clause-fault
returns-clause-fault c = c.image_of.ensures.fault

pub returns-clause-bytes : goal.returns-clause-bytes
returns-clause-bytes c = lent_bytes c.image_of.new.raster

pub returns-clause-marks : goal.returns-clause-marks
returns-clause-marks c = c.image_of.ensures.frame.marks

pub returns-clause-array : goal.returns-clause-array
returns-clause-array c = ap (λ (frame : Frame). frame.array) c.image_of.ensures.frame.kept
