use Rattle.std.proofs.Common.{◌≡◌, ◌↔◌, ℤ, ◌*ℤ◌, pos, Option, Some, sym, subst}
use mir.Syntax.{w64}
use mir.Val.{to_z, of_z}
use Rattle.raster_cells.specs.PixelType.{InRange}
use Rattle.double_bits.specs.Halves.{HalfDouble}
use Rattle.lerc_header.specs.Head.{double_at}
use Rattle.lerc_header.proofs.Exits.{passed_exit, failed_exit, untested_exit, some_has}
use Rattle.lerc_header.proofs.Ranges.{cast_whole}
use Rattle.lerc_header.proofs.reading.value_at.Goals as goal

pub returns-in_err-value : goal.returns-in_err-value
returns-in_err-value c =
    untested_exit (λ z. HalfDouble (double_at c.args.bytes.now c.args.place) (pos 2 *ℤ z)) (InRange c.args.kind) c.in_err-value.ensures c.from_residual.result c.from_residual.ensures

pub returns-then-is_in_range : goal.returns-then-is_in_range
returns-then-is_in_range c =
    let value = c.in_ok-value.value in
    let Whole : ℤ → Type 0 = λ z. HalfDouble (double_at c.args.bytes.now c.args.place) (pos 2 *ℤ z) in
    let cast : to_z w64 (of_z w64 value) ≡ value = cast_whole _ value (some_has Whole value c.in_ok-value.ensures) in
    let passes : InRange c.args.kind value = subst (InRange c.args.kind) cast (c.is_in_range.ensures.0 c.if-is_in_range.true) in
    subst (λ w. (z : ℤ) → (◌≡◌ {A = Option ℤ} (Some w) (Some z)) ↔ (Whole z × InRange c.args.kind z)) (sym cast)
    (passed_exit Whole (InRange c.args.kind) value c.in_ok-value.ensures passes)

pub returns-else-is_in_range : goal.returns-else-is_in_range
returns-else-is_in_range c =
    let value = c.in_ok-value.value in
    let Whole : ℤ → Type 0 = λ z. HalfDouble (double_at c.args.bytes.now c.args.place) (pos 2 *ℤ z) in
    let cast : to_z w64 (of_z w64 value) ≡ value = cast_whole _ value (some_has Whole value c.in_ok-value.ensures) in
    failed_exit Whole (InRange c.args.kind) value c.in_ok-value.ensures
    (λ passes. let is = c.is_in_range.ensures.1 (subst (InRange c.args.kind) (sym cast) passes) in cc (is, c.if-is_in_range.false))
