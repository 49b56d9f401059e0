use Rattle.std.proofs.Common.{◌≡◌, ◌*◌, length, ◌∙◌}
use Rattle.lerc_c.specs.Arrays.{mask_array_size}
use Rattle.lerc_c.proofs.BandLaying.{masks_once}
use Rattle.lerc_c.proofs.band_decoding.have_values_size.Goals as goal

pub returns : goal.returns
returns c =
    let bands = c.args.bands.now in
    let first = c.at-first.result.now in
    let masks = c.len-n.result * c.mask_size-mask.result in
    let mask : c.mask_size-mask.result ≡ mask_array_size first.rows first.cols = c.mask_size-mask.ensures ∙ (λ i. mask_array_size (c.rows.ensures.value i) (c.cols.ensures.value i)) in
    let is : masks ≡ length bands * mask_array_size first.rows first.cols = λ i. c.len-n.ensures.value i * mask i in
    (λ e. (masks, c.have_band_sizes.ensures.0 e), λ w. c.have_band_sizes.ensures.1 (masks_once bands first c.args.count c.args.values w.0 masks c.at-first.ensures is w.1))
