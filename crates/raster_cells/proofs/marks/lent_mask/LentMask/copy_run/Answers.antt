use Rattle.std.proofs.Common.{◌≡◌, ◌+◌, Bool, List, ap, ◌∙◌, sym, length, get_or, replicate, true, false, arith}
use Rattle.std.proofs.lemmas.List.{get_or-replicate}
use Rattle.raster_cells.proofs.LentMasks.{all_with, length-marks_with, some_with}
use Rattle.raster_cells.proofs.MaskBits.{get_or-marks_in}
use Rattle.raster_cells.proofs.marks.lent_mask.LentMask.copy_run.Goals as goal

pub copy_bits-requires-clause-few : goal.copy_bits-requires-clause-few
copy_bits-requires-clause-few c =
    let a = c.self.inside in
    omega (arith, c.requires, ap length c.self.view_is, length-marks_with a.count a.valid a.bytes.now, c.self.invariant.few)

pub copy_bits-requires-clause-within : goal.copy_bits-requires-clause-within
copy_bits-requires-clause-within c =
    let a = c.self.inside in
    omega (arith, c.requires, ap length c.self.view_is, length-marks_with a.count a.valid a.bytes.now, (c.self.invariant.bits c.if-self.false).size)

pub returns-then-self : goal.returns-then-self
returns-then-self c =
    let a = c.self.inside in
    let out : c.fill.new.self ≡ replicate (length c.args.out.now) true = c.fill.ensures.after (λ y e. e) in
    λ i less.
    ap (λ xs. get_or xs i false) out ∙ get_or-replicate (length c.args.out.now) i true false less
    ∙ sym (ap (λ (xs : List Bool). get_or xs (c.args.from + i) false) (sym c.self.view_is ∙ all_with a.count a.valid a.bytes.now c.if-self.true)
    ∙ get_or-replicate a.count (c.args.from + i) true false (omega (arith, less, c.requires, ap length c.self.view_is, length-marks_with a.count a.valid a.bytes.now)))

pub returns : goal.returns
returns c i less =
    let a = c.self.inside in
    c.copy_bits.ensures i less
    ∙ sym (get_or-marks_in a.count a.bytes.now (c.args.from + i) (omega (arith, less, c.requires, ap length c.self.view_is, length-marks_with a.count a.valid a.bytes.now)))
    ∙ ap (λ (xs : List Bool). get_or xs (c.args.from + i) false) (sym (some_with a.count a.valid a.bytes.now c.if-self.false) ∙ c.self.view_is)
