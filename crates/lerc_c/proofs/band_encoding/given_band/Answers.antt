use Rattle.std.proofs.Common.{◌≡◌, ◌+◌, ◌*◌, ◌<◌, ◌≤◌, ℕ, List, length, sym, ap, ◌∙◌, subst}
use Rattle.lerc_c.specs.Arrays.{GivesSizes, values_size, mask_array_size}
use Rattle.lerc_c.specs.BandArrays.{mask_for, part_at}
use Rattle.lerc_c.proofs.BandGiving.{room, mask_room, gives, area_few}
use Rattle.lerc_c.proofs.band_encoding.given_band.Goals as goal

pub mask_size-requires : goal.mask_size-requires
mask_size-requires c = area_few c.args.fit.arrays.rows c.args.fit.arrays.cols c.args.fit.arrays.depth c.args.fit.shape

pub mask_of-mask-requires : goal.mask_of-mask-requires
mask_of-mask-requires c =
    subst (λ m. m < length c.args.fit.arrays.masks.now → c.args.i * m + m ≤ length c.args.fit.arrays.masks.now) (sym c.mask_size.ensures)
    (mask_room c.args.fit.arrays.count c.args.i (mask_array_size c.args.fit.arrays.rows c.args.fit.arrays.cols) (length c.args.fit.arrays.masks.now) c.requires.within c.requires.sizes.masks_are)

pub part-values-requires : goal.part-values-requires
part-values-requires c =
    subst (λ m. c.args.i * m + m ≤ length c.args.fit.arrays.values.now) (sym c.band_size.ensures)
    (room c.args.fit.arrays.count c.args.i (values_size c.args.fit.arrays.kind c.args.fit.arrays.rows c.args.fit.arrays.cols c.args.fit.arrays.depth) (length c.args.fit.arrays.values.now) c.requires.within c.requires.sizes.values_are)

pub invariant_of-band-clause-sizes : goal.invariant_of-band-clause-sizes
invariant_of-band-clause-sizes c =
    let values : c.part-values.result.now ≡ part_at (values_size c.args.fit.arrays.kind c.args.fit.arrays.rows c.args.fit.arrays.cols c.args.fit.arrays.depth) c.args.i c.args.fit.arrays.values.now = c.part-values.ensures ∙ ap (λ m. part_at m c.args.i c.args.fit.arrays.values.now) c.band_size.ensures in
    let mask : c.mask_of-mask.result.now ≡ mask_for (mask_array_size c.args.fit.arrays.rows c.args.fit.arrays.cols) c.args.i c.args.fit.arrays.masks.now = c.mask_of-mask.ensures ∙ ap (λ m. mask_for m c.args.i c.args.fit.arrays.masks.now) c.mask_size.ensures in
    subst (λ (v : List ℕ). GivesSizes c.args.fit.arrays.kind c.args.fit.arrays.rows c.args.fit.arrays.cols c.args.fit.arrays.depth (length v) (length c.mask_of-mask.result.now)) (sym values)
    (subst (λ (m : List ℕ). GivesSizes c.args.fit.arrays.kind c.args.fit.arrays.rows c.args.fit.arrays.cols c.args.fit.arrays.depth (length (part_at (values_size c.args.fit.arrays.kind c.args.fit.arrays.rows c.args.fit.arrays.cols c.args.fit.arrays.depth) c.args.i c.args.fit.arrays.values.now)) (length m)) (sym mask)
    (gives c.args.fit.arrays.kind c.args.fit.arrays.rows c.args.fit.arrays.cols c.args.fit.arrays.depth c.args.fit.arrays.count c.args.i c.args.fit.arrays.values.now c.args.fit.arrays.masks.now c.requires.within c.requires.sizes))
