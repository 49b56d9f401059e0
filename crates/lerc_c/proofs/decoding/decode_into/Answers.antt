use Rattle.std.proofs.Common.{refl, inl, inr}
use Rattle.lerc_c.proofs.decoding.decode_into.Goals as goal

pub write_values-requires : goal.write_values-requires
write_values-requires c = (c.if-needs_no_mask.ensures.0 refl).values_is

pub returns-then-needs_no_mask-clause-ok : goal.returns-then-needs_no_mask-clause-ok
returns-then-needs_no_mask-clause-ok c =
    let needs = c.if-needs_no_mask.ensures.0 refl in
    inr (record {
      raster = c.in-Ok.raster;
      size = c.in-Ok.ensures.ok.0;
      done = c.in-Ok.ensures.ok.1;
      none = needs.none;
      full = needs.full;
      values_are = c.write_values.ensures;
    })

pub write_arrays-requires : goal.write_arrays-requires
write_arrays-requires c = c.if-not-have_sizes.ensures.0 refl

pub returns-clause-ok : goal.returns-clause-ok
returns-clause-ok c =
    inl (record {
      raster = c.in-Ok.raster;
      size = c.in-Ok.ensures.ok.0;
      done = c.in-Ok.ensures.ok.1;
      values_are = c.write_arrays.ensures.values;
      mask_is = c.write_arrays.ensures.mask;
    })
