use Rattle.std.proofs.Common.{◌*◌, length, sym, subst, ◌∙◌}
use Rattle.raster_cells.specs.declared.kind.PixelType.{PixelType}
use Rattle.raster_cells.specs.PixelType.{bytes_of}
use Rattle.raster_cells.specs.Values.{AreValues}
use Rattle.raster_cells.proofs.Spelled.{same_count}
use Rattle.lerc_decode.proofs.Marks.{filled_each}
use Rattle.lerc_decode.proofs.Filling.{keeps}
use Rattle.lerc_decode.proofs.blob.body.fill_list.Goals as goal

pub fill_bytes-requires : goal.fill_bytes-requires
fill_bytes-requires g c =
    let shape = c.requires.shaped.shape in
    record { size = c.requires.size ∙ (λ i. shape.depth i * bytes_of (shape.kind i)) }

pub returns-clause-frame : goal.returns-clause-frame
returns-clause-frame g c = record {
  raster = c.fill_bytes.ensures.sound;
  marks = keeps _ _ c.requires.shaped.raster c.fill_bytes.ensures.sound c.fill_bytes.ensures.filled.filled.same;
  kept = c.fill_bytes.ensures.kept;
}

pub returns-clause-filled : goal.returns-clause-filled
returns-clause-filled g c =
    let r = g.T.Target.pixels c.args.raster.now in
    let f = c.fill_bytes.ensures.filled in
    let shape = c.requires.shaped.shape in
    record {
      list = f.list;
      stands = subst (λ (kind : PixelType). AreValues kind c.args.list.now f.list) (sym shape.kind) f.stands;
      each = filled_each _ _ _ c.fill_bytes.ensures.sound
          (same_count r.kind (length f.list) r.depth (sym f.stands.size ∙ c.requires.size ∙ (λ i. shape.depth i * bytes_of (shape.kind i)))) f.filled;
    }
