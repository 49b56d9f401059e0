use Rattle.std.proofs.Common.{◌≡◌, replicate, sym, subst}
use Rattle.std.proofs.lemmas.List.{length-replicate}
use Rattle.raster_cells.proofs.ValueBits.{same_bits}
use Rattle.raster_values.specs.Flat.{EachValid}
use Rattle.lerc_decode.proofs.Marks.{filled_each}
use Rattle.lerc_decode.proofs.Filling.{keeps}
use Rattle.lerc_decode.proofs.blob.body.fill_constant.Goals as goal

pub returns-clause-frame : goal.returns-clause-frame
returns-clause-frame g c = record {
  raster = c.fill_value.ensures.sound;
  marks = keeps _ _ c.requires.shaped.raster c.fill_value.ensures.sound c.fill_value.ensures.filled.same;
  kept = c.fill_value.ensures.kept;
}

pub returns-clause-filled : goal.returns-clause-filled
returns-clause-filled g c =
    let h = c.args.header.now in
    subst (λ list. EachValid (g.T.Target.pixels c.fill_value.new.self) (λ values. values ≡ list))
    (λ i. replicate (sym c.requires.shaped.shape.depth i) (same_bits h.kind h.least c.requires.in_range i))
    (filled_each _ _ _ c.fill_value.ensures.sound (length-replicate _ _) c.fill_value.ensures.filled)
