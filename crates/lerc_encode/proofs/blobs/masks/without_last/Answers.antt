use Rattle.lerc_encode.proofs.MaskEnds.{bit_kept}
use Rattle.lerc_encode.proofs.blobs.masks.without_last.Goals as goal

pub returns : goal.returns
returns c q within = bit_kept c.args.byte c.args.count q c.requires within
