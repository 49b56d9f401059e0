use Rattle.std.proofs.Common.{refl}
use Rattle.lerc_encode.proofs.Packing.{none_written}
use Rattle.lerc_encode.proofs.blobs.masks.write_no_mask.Goals as goal

pub returns : goal.returns
returns c = none_written 0 _ c.args.out.now refl c.requires c.write_u32.ensures
