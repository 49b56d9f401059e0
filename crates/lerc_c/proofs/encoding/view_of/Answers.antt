use Rattle.std.proofs.Common.{List, ℕ, sym, ◌∙◌, subst}
use Rattle.std.proofs.lemmas.Bool.{eqb-true, eqb-false}
use Rattle.lerc_c.specs.Arrays.{IsGiven}
use Rattle.lerc_c.proofs.Giving.{none_is_nil, seen_given, seen_whole}
use Rattle.lerc_c.proofs.encoding.view_of.Goals as goal

pub returns-then-is_empty : goal.returns-then-is_empty
returns-then-is_empty c =
    let e = c.whole.ensures in
    subst (λ (mask : List ℕ). IsGiven c.args.fit.arrays.kind c.args.fit.arrays.rows c.args.fit.arrays.cols c.args.fit.arrays.depth c.args.fit.arrays.values.now mask c.whole.result) (sym (none_is_nil c.args.fit.arrays.mask.now (eqb-true _ _ (sym c.is_empty.ensures ∙ c.if-is_empty.true))))
    (seen_whole c.args.fit.arrays.kind c.args.fit.arrays.rows c.args.fit.arrays.cols c.args.fit.arrays.depth c.args.fit.arrays.values.now c.whole.result e.sound e.kind e.rows e.cols e.depth e.marks e.values)

pub returns : goal.returns
returns c =
    let e = c.over.ensures in
    seen_given c.args.fit.arrays.kind c.args.fit.arrays.rows c.args.fit.arrays.cols c.args.fit.arrays.depth c.args.fit.arrays.values.now c.args.fit.arrays.mask.now c.over.result (eqb-false _ _ (sym c.is_empty.ensures ∙ c.if-is_empty.false)) e.sound e.kind e.rows e.cols e.depth e.marks e.values
