use Rattle.lerc_decode.proofs.blob.body.fill_raster.Goals as goal

pub image_of-requires-clause-marked : goal.image_of-requires-clause-marked
image_of-requires-clause-marked c = record { shaped = record { raster = c.rows.ensures.sound; shape = c.requires.shape }; valid = c.requires.valid }
