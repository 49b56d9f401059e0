use Rattle.std.proofs.Common.{◌∙◌}
use Rattle.lerc_decode.proofs.Bodies.{ok_map}
use Rattle.lerc_decode.proofs.CallersArrays.{mask_held}
use Rattle.lerc_decode.proofs.over.summed_over.Goals as goal

pub returns-clause-ok : goal.returns-clause-ok
returns-clause-ok c =
    ok_map (λ p. (
      p.raster,
      (
        p.blob_of,
        record {
          values_are = p.values_are;
          mask_is = mask_held c.args.blob.now.header p.raster c.mask_bits.new.bits p.blob_of.0 p.shape (λ i. c.scatter_over.ensures.bytes i) (c.mask_bits.auto.bits ∙ c.requires.room.masks_size) p.marks c.in_ok-mask_bits.ensures.spare;
        },
      ),
    )) c.scatter_over.result c.scatter_over.ensures.ok
