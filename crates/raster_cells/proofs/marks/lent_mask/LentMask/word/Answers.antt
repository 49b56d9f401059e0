use Rattle.std.proofs.Common.{◌+◌, ◌∙◌, Bool, List, ap, sym, length, get_or, true, false, arith}
use Rattle.std.proofs.lemmas.List.{get_or-replicate}
use Rattle.raster_cells.proofs.LentMasks.{all_with, length-marks_with, some_with}
use Rattle.raster_cells.proofs.MaskBits.{get_or-marks_in}
use Rattle.raster_cells.proofs.MarkWords.{full_word}
use Rattle.raster_cells.proofs.marks.lent_mask.LentMask.word.Goals as goal

pub word_from-requires-clause-within : goal.word_from-requires-clause-within
word_from-requires-clause-within c =
    let a = c.self.inside in
    omega (arith, c.requires.within, ap length c.self.view_is, length-marks_with a.count a.valid a.bytes.now, (c.self.invariant.bits c.if-self.false).size)

pub word_from-requires-clause-places : goal.word_from-requires-clause-places
word_from-requires-clause-places c =
    let a = c.self.inside in
    omega (arith, c.requires.within, ap length c.self.view_is, length-marks_with a.count a.valid a.bytes.now, c.self.invariant.few)

pub returns-then-self : goal.returns-then-self
returns-then-self c =
    let a = c.self.inside in
    full_word c.args.self.now c.args.from c.args.count c.requires.few (λ q less.
    ap (λ (xs : List Bool). get_or xs (c.args.from + q) false) (sym c.self.view_is ∙ all_with a.count a.valid a.bytes.now c.if-self.true)
    ∙ get_or-replicate a.count (c.args.from + q) true false (omega (arith, less, c.requires.within, ap length c.self.view_is, length-marks_with a.count a.valid a.bytes.now)))

pub returns : goal.returns
returns c =
    let a = c.self.inside in
    record {
      below = c.word_from.ensures.below;
      bits = λ q less. c.word_from.ensures.bits q less
          ∙ sym (get_or-marks_in a.count a.bytes.now (c.args.from + q) (omega (arith, less, c.requires.within, ap length c.self.view_is, length-marks_with a.count a.valid a.bytes.now)))
          ∙ ap (λ (xs : List Bool). get_or xs (c.args.from + q) false) (sym (some_with a.count a.valid a.bytes.now c.if-self.false) ∙ c.self.view_is);
    }
