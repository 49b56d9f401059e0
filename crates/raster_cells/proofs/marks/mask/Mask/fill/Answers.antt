use Rattle.std.proofs.Common.{ap, ◌∙◌, sym, replicate, true}
use Rattle.std.proofs.lemmas.List.{length-replicate}
use Rattle.raster_cells.proofs.MaskBits.{count_is, are_mask, marks_are, all_on, count_of_all}
use Rattle.raster_cells.proofs.marks.mask.Mask.fill.Goals as goal

pub invariant_of-self : goal.invariant_of-self
invariant_of-self c =
    let n = c.self.inside.count in
    are_mask _ (replicate n true) c.self.invariant.few (length-replicate n true) (c.set_front.ensures.size ∙ c.self.invariant.size)
    (λ k. c.set_front.ensures.bits k ∙ sym (all_on n k)) (sym (count_of_all n))

pub returns : goal.returns
returns c =
    let n = c.self.inside.count in
    marks_are n c.set_front.new.bytes.items (replicate n true) (length-replicate n true) (λ k _. c.set_front.ensures.bits k ∙ sym (all_on n k))
    ∙ ap (λ m. replicate m true) (sym (count_is c.self.inside _ c.self.view_is))
