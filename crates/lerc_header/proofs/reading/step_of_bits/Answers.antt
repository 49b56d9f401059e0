use Rattle.std.proofs.Common.{◌≡◌, ℕ, pos, subst, arith, rules}
use Rattle.std.specs.Prelude.{unsigned_abs}
use Rattle.std.proofs.lemmas.Int.{ints}
use mir.Syntax.{w64}
use mir.Val.{to_z, of_z}
use Rattle.double_bits.specs.Halves.{HalfDouble}
use Rattle.raster_cells.specs.Step.{IsTwiceError}
use Rattle.lerc_header.proofs.Exits.{none_exit, none_of, some_exit, some_of, some_has}
use Rattle.lerc_header.proofs.reading.step_of_bits.Goals as goal

pub returns-in_err-halves : goal.returns-in_err-halves
returns-in_err-halves c =
    none_exit (λ (n : ℕ). HalfDouble c.args.bits (pos n) × IsTwiceError n)
    (λ n h. none_of (HalfDouble c.args.bits) c.in_err-halves.ensures.exact (pos n) h.0) c.from_residual.result c.from_residual.ensures

pub overflow_cast-result : goal.overflow_cast-result
overflow_cast-result c = omega (arith, ints, c.if-halves-lt1.false)

pub returns : goal.returns
returns c =
    let there = HalfDouble c.args.bits in
    let halves = c.in_ok-halves.halves in
    let exact = c.in_ok-halves.ensures.exact in
    let step = unsigned_abs (to_z w64 (of_z w64 halves)) in
    let value : halves ≡ pos step = omega (arith, ints, c.if-halves-lt1.false) in
    let allowed : IsTwiceError step = record {
      above = omega (arith, ints, c.if-halves-lt1.false);
      below = omega (arith, ints, c.if-halves-gt-GREATEST_STEP.false);
      even = search rules;
    } in
    some_exit (λ n. there (pos n) × IsTwiceError n) step
    (subst there value (some_has there halves exact), allowed)
    (λ n h.
    let same : halves ≡ pos n = some_of there halves exact (pos n) h.0 in
    omega (arith, ints, value, same))
