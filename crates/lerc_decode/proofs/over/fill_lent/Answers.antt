use Rattle.std.proofs.Common.{ap}
use Rattle.std.specs.Prelude.{None}
use Rattle.raster_values.specs.RasterMut.{Frame, lent_pixels}
use Rattle.raster_values.proofs.RasterMutArrays.{lent_bytes, lent_raster}
use Rattle.lerc_decode.proofs.Bodies.{marked_count, ok_map, picked_err}
use Rattle.lerc_decode.proofs.over.fill_lent.Goals as goal

pub image_of-requires-clause-marked : goal.image_of-requires-clause-marked
image_of-requires-clause-marked c = record {
  shaped = record { raster = lent_raster c.args.lent.now; shape = c.requires.marked.shape };
  valid = marked_count None c.args.blob.now.header c.args.blob.now.bytes.now c.args.form.now (lent_pixels c.args.lent.now) c.requires.marked;
}

pub returns-clause-ok : goal.returns-clause-ok
returns-clause-ok c = ok_map (λ made. made None c.requires.marked) c.image_of.result c.image_of.ensures.ok

pub returns-clause-fault : goal.returns-clause-fault
returns-clause-fault c = picked_err None c.args.blob.now.header c.args.blob.now.bytes.now c.args.form.now (lent_pixels c.args.lent.now) c.image_of.result c.requires.marked c.image_of.ensures.fault

pub returns-clause-bytes : goal.returns-clause-bytes
returns-clause-bytes c = lent_bytes c.image_of.new.raster

pub returns-clause-marks : goal.returns-clause-marks
returns-clause-marks c = c.image_of.ensures.frame.marks

pub returns-clause-array : goal.returns-clause-array
returns-clause-array c = ap (λ (frame : Frame). frame.array) c.image_of.ensures.frame.kept
