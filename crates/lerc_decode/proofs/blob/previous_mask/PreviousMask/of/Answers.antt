use Rattle.lerc_decode.proofs.PreviousMasks.{kept_count, kept_size, said}
use Rattle.lerc_decode.proofs.blob.previous_mask.PreviousMask.of.Goals as goal

pub invariant_of-result : goal.invariant_of-result
invariant_of-result c = record {
  size = kept_size c.args.raster.now c.rows.result c.cols.result c.in_ok-mask.mask.items c.rows.ensures.value c.cols.ensures.value c.in_ok-mask.ensures;
  counted = kept_count c.args.raster.now c.rows.result c.cols.result c.valid_count.result c.in_ok-mask.mask.items c.rows.ensures.sound c.rows.ensures.value c.cols.ensures.value c.valid_count.ensures.value c.in_ok-mask.ensures;
}

pub returns : goal.returns
returns c =
    let marks = said c.args.raster.now c.rows.result c.cols.result c.in_ok-mask.mask.items c.rows.ensures.sound c.rows.ensures.value c.cols.ensures.value c.in_ok-mask.ensures in
    λ i. record { rows = c.rows.ensures.value i; cols = c.cols.ensures.value i; marks = marks i }
