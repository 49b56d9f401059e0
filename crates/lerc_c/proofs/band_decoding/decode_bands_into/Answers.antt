use Rattle.std.proofs.Common.{ℕ, length, refl, sym, subst, inl, inr}
use Rattle.lerc_c.specs.BandArrays.{HaveBandSizes}
use Rattle.lerc_c.proofs.BandLaying.{same_count}
use Rattle.lerc_c.proofs.band_decoding.decode_bands_into.Goals as goal

pub write_values-requires : goal.write_values-requires
write_values-requires c =
    let bands = c.in-Ok.bands in
    let values = length c.args.values.now in
    let needs = c.if-need_no_masks.ensures.0 refl in
    (needs.fit.0, subst (λ (n : ℕ). HaveBandSizes bands n values needs.fit.0) (same_count bands c.args.count values needs.fit.0 needs.fit.1) needs.fit.1)

pub returns-then-need_no_masks-clause-ok : goal.returns-then-need_no_masks-clause-ok
returns-then-need_no_masks-clause-ok c =
    let bands = c.in-Ok.bands in
    let needs = c.if-need_no_masks.ensures.0 refl in
    inr (record {
      bands = bands;
      blobs = c.in-Ok.ensures;
      count = sym (same_count bands c.args.count (length c.args.values.now) needs.fit.0 needs.fit.1);
      none = needs.none;
      full = needs.full;
      values_are = c.write_values.ensures;
    })

pub returns-clause-ok : goal.returns-clause-ok
returns-clause-ok c =
    let bands = c.in-Ok.bands in
    let sizes = c.if-not-have_band_sizes.ensures.0 refl in
    inl (record {
      bands = bands;
      blobs = c.in-Ok.ensures;
      count = sym (same_count bands c.args.count (length c.args.values.now) (length c.args.masks.now) sizes);
      values_are = c.write_bands.ensures.values;
      masks_are = c.write_bands.ensures.masks;
    })
