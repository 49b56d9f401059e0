use Rattle.std.proofs.Common.{◌+◌, ◌∙◌, Bool, List, ap, length, get_or, false, arith}
use Rattle.raster_cells.specs.Masks.{mask_bit}
use Rattle.raster_cells.proofs.MaskBits.{bit_is, run_room}
use Rattle.raster_cells.proofs.marks.mask.Mask.word.Goals as goal

pub word_from-requires-clause-within : goal.word_from-requires-clause-within
word_from-requires-clause-within c = omega (arith, (run_room c.self.inside _ c.args.from c.args.count c.self.invariant c.self.view_is c.requires.within).1, ap length c.deref.ensures.value)

pub word_from-requires-clause-places : goal.word_from-requires-clause-places
word_from-requires-clause-places c = (run_room c.self.inside _ c.args.from c.args.count c.self.invariant c.self.view_is c.requires.within).0

pub returns : goal.returns
returns c =
    record {
      below = c.word_from.ensures.below;
      bits = λ q less. c.word_from.ensures.bits q less ∙ ap (λ xs. mask_bit xs (c.args.from + q)) c.deref.ensures.value ∙ bit_is c.self.inside c.self.invariant (c.args.from + q)
          ∙ ap (λ (xs : List Bool). get_or xs (c.args.from + q) false) c.self.view_is;
    }
