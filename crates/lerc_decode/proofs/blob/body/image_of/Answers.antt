use Rattle.lerc_decode.proofs.Bodies.{form_err, image_errs, ok_map, picture_made}
use Rattle.lerc_decode.proofs.Filling.{same_frame}
use Rattle.lerc_decode.proofs.blob.body.image_of.Goals as goal

pub read_image-requires-clause-form : goal.read_image-requires-clause-form
read_image-requires-clause-form g c = (c.image_part.ensures.ok c.in-Ok.form).0 c.in-Ok.is

pub returns-in-Ok-clause-ok : goal.returns-in-Ok-clause-ok
returns-in-Ok-clause-ok g c =
    ok_map (λ image before marked.
    picture_made before c.args.blob.now.header c.args.blob.now.bytes.now c.args.mask.now (g.T.Target.pixels c.args.raster.now) (g.T.Target.pixels c.read_image.new.raster) c.args.blob.now.head c.args.blob.now.size c.args.blob.now.sum c.requires.mask marked
    c.read_image.ensures.frame.raster c.read_image.ensures.frame.marks image) c.read_image.result c.read_image.ensures.read.ok

pub returns-in-Ok-clause-fault : goal.returns-in-Ok-clause-fault
returns-in-Ok-clause-fault g c =
    image_errs c.args.blob.now.header c.args.blob.now.bytes.now c.args.mask.now (g.T.Target.pixels c.args.raster.now) c.read_image.result c.args.blob.now.sum c.requires.mask c.read_image.ensures.read.fault

pub returns-in-Err-clause-frame : goal.returns-in-Err-clause-frame
returns-in-Err-clause-frame g c = same_frame _ _ c.requires.marked.shaped.raster

pub returns-in-Err-clause-fault : goal.returns-in-Err-clause-fault
returns-in-Err-clause-fault g c = λ before marked.
    form_err before c.args.blob.now.header c.args.blob.now.bytes.now c.args.mask.now (g.T.Target.pixels c.args.raster.now) c.in-Err.fault c.args.blob.now.sum c.requires.mask marked ((c.image_part.ensures.fault c.in-Err.fault).0 c.in-Err.is)
