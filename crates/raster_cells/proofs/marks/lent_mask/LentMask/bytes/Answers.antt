use Rattle.std.proofs.Common.{◌+◌, ◌/◌, ◌<◌, Bool, List, ap, ◌∙◌, sym, subst, length, get_or, false, arith}
use Rattle.std.specs.Prelude.{count_by}
use Rattle.raster_cells.proofs.LentMasks.{length-marks_with, not_all, some_with}
use Rattle.raster_cells.proofs.MaskBits.{get_or-marks_in}
use Rattle.raster_cells.proofs.marks.lent_mask.LentMask.bytes.Goals as goal

pub returns-clause-size : goal.returns-clause-size
returns-clause-size c =
    let a = c.self.inside in
    let other = not_all a.count a.valid a.bytes.now c.self.invariant (subst (λ (xs : List Bool). count_by (λ m. m) xs < length xs) (sym c.self.view_is) c.requires) in
    (c.self.invariant.bits other).size ∙ ap (λ n. (n + 7) / 8) (sym (length-marks_with a.count a.valid a.bytes.now) ∙ ap length c.self.view_is)

pub returns-clause-bits : goal.returns-clause-bits
returns-clause-bits c k below =
    let a = c.self.inside in
    let other = not_all a.count a.valid a.bytes.now c.self.invariant (subst (λ (xs : List Bool). count_by (λ m. m) xs < length xs) (sym c.self.view_is) c.requires) in
    sym (get_or-marks_in a.count a.bytes.now k (omega (arith, below, ap length c.self.view_is, length-marks_with a.count a.valid a.bytes.now)))
    ∙ ap (λ (xs : List Bool). get_or xs k false) (sym (some_with a.count a.valid a.bytes.now other) ∙ c.self.view_is)
