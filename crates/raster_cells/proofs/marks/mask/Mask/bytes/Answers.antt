use Rattle.std.proofs.Common.{◌+◌, ◌/◌, Bool, List, ap, ◌∙◌, sym, length, get_or, false}
use Rattle.raster_cells.specs.Masks.{mask_bit}
use Rattle.raster_cells.proofs.MaskBits.{size_is, bit_is}
use Rattle.raster_cells.proofs.marks.mask.Mask.bytes.Goals as goal

pub returns-clause-size : goal.returns-clause-size
returns-clause-size c = ap length c.deref.ensures.value ∙ c.self.invariant.size ∙ ap (λ n. (n + 7) / 8) (sym (size_is c.self.inside) ∙ ap length c.self.view_is)

pub returns-clause-bits : goal.returns-clause-bits
returns-clause-bits c k = ap (λ xs. mask_bit xs k) c.deref.ensures.value ∙ bit_is c.self.inside c.self.invariant k ∙ ap (λ (ms : List Bool). get_or ms k false) c.self.view_is
