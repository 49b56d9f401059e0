use Rattle.std.proofs.Common.{◌≡◌, ◌<◌, Bool, List, ℕ, sym, subst, ◌∙◌, length, get_or, false, true}
use Rattle.std.specs.Prelude.{IsTrue, count_by, nat_eq}
use Rattle.std.proofs.lemmas.Bool.{eq-eqb, eqb-true}
use Rattle.raster_cells.specs.LentMask.{marks_with}
use Rattle.raster_cells.proofs.LentMasks.{count_with, length-marks_with}
use Rattle.raster_cells.proofs.MaskCounts.{all_counted, all_set}
use Rattle.raster_cells.proofs.marks.lent_mask.LentMask.is_whole.Goals as goal

pub returns : goal.returns
returns c =
    let a = c.self.inside in
    let ms = marks_with a.count a.valid a.bytes.now in
    let counted : count_by (λ m. m) ms ≡ a.valid = count_with a.count a.valid a.bytes.now c.self.invariant in
    let long : length ms ≡ a.count = length-marks_with a.count a.valid a.bytes.now in
    let full_is : Type 0 = (k : ℕ) → k < length ms → get_or ms k false ≡ true in
    let told : IsTrue (nat_eq a.valid a.count) → full_is = λ t k below.
    all_set ms k (counted ∙ eqb-true a.valid a.count t ∙ sym long) below in
    let back : full_is → IsTrue (nat_eq a.valid a.count) = λ each.
    eq-eqb a.valid a.count (sym counted ∙ all_counted ms each ∙ long) in
    subst (λ (xs : List Bool). (IsTrue (nat_eq a.valid a.count) → (k : ℕ) → k < length xs → get_or xs k false ≡ true)
    × (((k : ℕ) → k < length xs → get_or xs k false ≡ true) → IsTrue (nat_eq a.valid a.count))) c.self.view_is (told, back)
