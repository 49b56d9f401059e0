use Rattle.std.proofs.Common.{ap, ◌∙◌, sym, subst}
use Rattle.raster_cells.specs.Masks.{marks_in}
use Rattle.raster_cells.specs.LentMask.{AreBits}
use Rattle.raster_cells.proofs.marks.mask.Mask.read.Goals as goal

pub with_count-requires : goal.with_count-requires
with_count-requires c =
    let a = c.self.inside in
    subst (AreBits a.count a.valid) (sym c.deref.ensures.value) (record { few = c.self.invariant.few; size = c.self.invariant.size; counted = c.self.invariant.counted })

pub returns : goal.returns
returns c = c.with_count.ensures ∙ ap (marks_in c.self.inside.count) c.deref.ensures.value ∙ c.self.view_is
