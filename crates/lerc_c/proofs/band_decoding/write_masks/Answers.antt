use Rattle.std.proofs.Common.{◌≡◌, ◌+◌, ◌*◌, ◌≤◌, ◌++◌, length, take, sym, ap, ◌∙◌, subst, arith, length-append, List}
use Rattle.std.proofs.Math.Nat.{add-mul}
use Rattle.raster_values.specs.Raster.{Pixels}
use Rattle.raster_values.specs.Places.{SameShape}
use Rattle.lerc_c.specs.Arrays.{mask_array_size}
use Rattle.lerc_c.specs.BandArrays.{AreMasks}
use Rattle.lerc_c.proofs.BandGiving.{room}
use Rattle.lerc_c.proofs.BandLaying.{laid_more, masks_more, one_more, same_shape, sizes_of, same_mask_size}
use Rattle.lerc_c.proofs.band_decoding.write_masks.Goals as goal

pub lay_mask-requires-clause-size : goal.lay_mask-requires-clause-size
lay_mask-requires-clause-size c =
    let bands = c.args.bands.now in
    let first = c.at-first.result.now in
    let band = c.at-band.result.now in
    let shape : SameShape band first = same_shape bands first band c.loop-i.i c.len-i-end.ensures.sound c.at-first.ensures c.at-band.ensures in
    c.mask_size-mask.ensures ∙ (λ i. mask_array_size (c.rows.ensures.value i) (c.cols.ensures.value i)) ∙ sym (same_mask_size band first shape)

pub lay_mask-requires-clause-within : goal.lay_mask-requires-clause-within
lay_mask-requires-clause-within c =
    let bands = c.args.bands.now in
    let first = c.at-first.result.now in
    let sizes = sizes_of bands first (length bands) c.requires.0 (length c.args.masks.now) c.at-first.ensures c.requires.1 in
    let size : c.mask_size-mask.result ≡ mask_array_size first.rows first.cols = c.mask_size-mask.ensures ∙ (λ i. mask_array_size (c.rows.ensures.value i) (c.cols.ensures.value i)) in
    let same : length c.loop-i.masks ≡ length c.args.masks.now = c.loop-i.auto.masks in
    let within : c.loop-i.i * c.mask_size-mask.result + c.mask_size-mask.result ≤ length c.args.masks.now =
    room (length bands) c.loop-i.i c.mask_size-mask.result (length c.args.masks.now) (omega (arith, c.loop-i-test.true, c.len-i-end.ensures.value)) (sizes.1 ∙ ap (λ m. length bands * m) (sym size)) in
    omega (arith, same, within)

pub loop-i-preserved : goal.loop-i-preserved
loop-i-preserved c =
    let bands = c.args.bands.now in
    let first = c.at-first.result.now in
    let band = c.at-band.result.now in
    let i = c.loop-i.i in
    let loop = c.loop-i.invariant in
    let mask = c.mask_size-mask.result in
    let shape : SameShape band first = same_shape bands first band i c.len-i-end.ensures.sound c.at-first.ensures c.at-band.ensures in
    let is_mask : mask ≡ mask_array_size band.rows band.cols = c.mask_size-mask.ensures ∙ (λ j. mask_array_size (c.rows.ensures.value j) (c.cols.ensures.value j)) ∙ sym (same_mask_size band first shape) in
    let masked = c.lay_mask.ensures in
    let mask_long : length masked.0 ≡ mask = masked.1.0.size ∙ sym is_mask in
    let next_mask : (i + 1) * mask ≡ i * mask + mask = omega (arith, add-mul i 1 mask) in
    record {
      front = loop.front ++ masked.0;
      masks = laid_more c.args.masks.now c.loop-i.masks c.lay_mask.new.masks loop.front masked.0 i mask loop.masks loop.long masked.1.1;
      long = length-append loop.front masked.0 ∙ omega (arith, loop.long, mask_long, next_mask);
      are = subst (λ (xs : List Pixels). AreMasks (loop.front ++ masked.0) xs) (sym (one_more bands i band c.at-band.ensures)) (masks_more loop.front masked.0 (take i bands) band loop.are masked.1.0);
    }
