use Rattle.std.proofs.Common.{◌+◌, Bool, List, ap, ◌∙◌, sym, length, get_or, replicate, true, false, arith}
use Rattle.std.proofs.lemmas.List.{get_or-replicate}
use Rattle.raster_cells.specs.Masks.{mask_bit, marks_in}
use Rattle.raster_cells.specs.Runs.{run_places}
use Rattle.raster_cells.proofs.LentMasks.{all_with, length-marks_with, some_with}
use Rattle.raster_cells.proofs.MaskBits.{get_or-marks_in}
use Rattle.raster_cells.proofs.MaskCounts.{same_count, all_count}
use Rattle.raster_cells.proofs.marks.lent_mask.LentMask.count_run.Goals as goal

pub count_bits-requires-clause-few : goal.count_bits-requires-clause-few
count_bits-requires-clause-few c =
    let a = c.self.inside in
    omega (arith, c.requires, ap length c.self.view_is, length-marks_with a.count a.valid a.bytes.now, c.self.invariant.few)

pub count_bits-requires-clause-within : goal.count_bits-requires-clause-within
count_bits-requires-clause-within c =
    let a = c.self.inside in
    omega (arith, c.requires, ap length c.self.view_is, length-marks_with a.count a.valid a.bytes.now, (c.self.invariant.bits c.if-self.false).size)

pub returns-then-self : goal.returns-then-self
returns-then-self c =
    let a = c.self.inside in
    let ms = replicate a.count true in
    sym (ap (λ (xs : List Bool). length (run_places xs c.args.from c.args.count)) (sym c.self.view_is ∙ all_with a.count a.valid a.bytes.now c.if-self.true)
    ∙ all_count (λ k. get_or ms k false) c.args.from c.args.count (λ k low high.
    get_or-replicate a.count k true false (omega (arith, high, c.requires, ap length c.self.view_is, length-marks_with a.count a.valid a.bytes.now))))

pub returns : goal.returns
returns c =
    let a = c.self.inside in
    let bytes = a.bytes.now in
    let ms = marks_in a.count bytes in
    c.count_bits.ensures
    ∙ same_count (mask_bit bytes) (λ k. get_or ms k false) c.args.from c.args.from c.args.count (λ i less.
    sym (get_or-marks_in a.count bytes (c.args.from + i) (omega (arith, less, c.requires, ap length c.self.view_is, length-marks_with a.count a.valid bytes))))
    ∙ ap (λ (xs : List Bool). length (run_places xs c.args.from c.args.count)) (sym (some_with a.count a.valid bytes c.if-self.false) ∙ c.self.view_is)
