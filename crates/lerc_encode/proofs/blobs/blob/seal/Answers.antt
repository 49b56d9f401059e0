use Rattle.std.proofs.Common.{refl}
use Rattle.lerc_encode.proofs.Laying.{sealed}
use Rattle.lerc_encode.proofs.blobs.blob.seal.Goals as goal

pub returns : goal.returns
returns c =
    sealed c.args.header.now _ c.args.blob.now c.put_header.new.blob c.put_header-2.new.blob _ _ c.sum_behind-sum.result c.with_sum.ensures refl c.put_header.ensures c.sum_behind-sum.ensures refl c.put_header-2.ensures
