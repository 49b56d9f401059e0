use Rattle.std.proofs.Common.{◌∙◌, sym, arith}
use Rattle.std.proofs.lemmas.Bool.{true≢false}
use Rattle.raster_cells.proofs.FrontBits.{turned_below, zero_turned, one_turned}
use Rattle.raster_cells.proofs.marks.bits.equal_in_front.Goals as goal

pub zeros_in_front-requires-clause-below : goal.zeros_in_front-requires-clause-below
zeros_in_front-requires-clause-below c = turned_below c.args.count c.args.word c.requires.few

pub returns-then-mark-clause-equal : goal.returns-then-mark-clause-equal
returns-then-mark-clause-equal c q low =
    zero_turned c.args.count c.args.word q c.requires.few c.requires.below (omega (arith, c.zeros_in_front.ensures.within, low)) (c.zeros_in_front.ensures.zeros q low) ∙ sym c.if-mark.true

pub returns-then-mark-clause-end : goal.returns-then-mark-clause-end
returns-then-mark-clause-end c less same =
    true≢false (sym (same ∙ c.if-mark.true) ∙ one_turned c.args.count c.args.word c.zeros_in_front.result c.requires.few c.requires.below less (c.zeros_in_front.ensures.one less))

pub returns-else-mark-clause-end : goal.returns-else-mark-clause-end
returns-else-mark-clause-end c less same = true≢false (sym (c.zeros_in_front-else-mark.ensures.one less) ∙ same ∙ c.if-mark.false)
