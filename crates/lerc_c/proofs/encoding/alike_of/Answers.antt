use Rattle.std.proofs.Common.{sym, ◌∙◌, subst}
use Rattle.std.proofs.lemmas.Bool.{eqb-true}
use mir.Syntax.{w64}
use mir.Val.{to_z, of_z}
use Rattle.raster_cells.proofs.ValueBits.{same_bits}
use Rattle.lerc_c.specs.inside.Repeated.{IsOneValue}
use Rattle.lerc_c.proofs.Repeating.{none_given, one_given}
use Rattle.lerc_c.proofs.encoding.alike_of.Goals as goal

pub returns-then-is_empty : goal.returns-then-is_empty
returns-then-is_empty c =
    let v = c.in_ok-value.value in
    one_given c.args.fit.arrays.kind c.args.fit.arrays.rows c.args.fit.arrays.cols c.args.fit.arrays.depth c.args.fit.arrays.values.now c.args.fit.arrays.mask.now (to_z w64 (of_z w64 v)) c.args.fit.shape (eqb-true _ _ (sym c.is_empty.ensures ∙ c.if-is_empty.true)) c.args.fit.sizes.values_is
    (subst (IsOneValue c.args.fit.arrays.kind c.args.fit.arrays.values.now) (sym (same_bits c.args.fit.arrays.kind v c.in_ok-value.ensures.in_range)) c.in_ok-value.ensures)

pub returns-then-are_zero : goal.returns-then-are_zero
returns-then-are_zero c =
    none_given c.args.fit.arrays.kind c.args.fit.arrays.rows c.args.fit.arrays.cols c.args.fit.arrays.depth c.args.fit.arrays.values.now c.args.fit.arrays.mask.now c.args.fit.shape (sym c.is_empty.ensures ∙ c.if-is_empty.false) (c.are_zero.ensures c.if-are_zero.true)
