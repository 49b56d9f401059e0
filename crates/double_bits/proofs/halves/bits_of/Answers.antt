use Rattle.std.proofs.Common.{◌≡◌, pos, ◌+◌, ◌^◌, ◌<◌, ◌∙◌, sym, ap, subst, arith}
use Rattle.std.specs.Prelude.{unsigned_abs}
use Rattle.std.specs.Int.Signed.{lt_z}
use Rattle.std.proofs.lemmas.Int.{ints}
use mir.Syntax.{w64}
use mir.Val.{to_z, of_z}
use Rattle.double_bits.specs.Bits.{half_bits, magnitude_bits}
use Rattle.double_bits.specs.Halves.{HalfDouble}
use Rattle.double_bits.proofs.HalfBits.{is_written, half_stands, minus_bits, plus_bits}
use Rattle.double_bits.proofs.halves.bits_of.Goals as goal

minus : (c : goal.Then-halves-lt0) → 2 ^ 63 + c.bits_of_magnitude-bits.result ≡ half_bits c.args.halves
minus c =
    let same : to_z w64 (of_z w64 c.args.halves) ≡ c.args.halves = omega (arith, ints, c.ranges.halves) in
    minus_bits c.args.halves c.bits_of_magnitude-bits.result (ap (λ z. lt_z z (pos 0)) (sym same) ∙ c.if-halves-lt0.true)
    (c.bits_of_magnitude-bits.ensures ∙ ap magnitude_bits (c.unsigned_abs.ensures.value ∙ ap unsigned_abs same))

plus : (c : goal.Else-halves-lt0) → c.bits_of_magnitude-bits.result ≡ half_bits c.args.halves
plus c =
    let same : to_z w64 (of_z w64 c.args.halves) ≡ c.args.halves = omega (arith, ints, c.ranges.halves) in
    plus_bits c.args.halves c.bits_of_magnitude-bits.result (ap (λ z. lt_z z (pos 0)) (sym same) ∙ c.if-halves-lt0.false)
    (c.bits_of_magnitude-bits.ensures ∙ ap magnitude_bits (c.unsigned_abs.ensures.value ∙ ap unsigned_abs same))

pub overflow_add-result : goal.overflow_add-result
overflow_add-result c =
    let same : to_z w64 (of_z w64 c.args.halves) ≡ c.args.halves = omega (arith, ints, c.ranges.halves) in
    let written = is_written c.unsigned_abs.result (subst (λ n. n < 2 ^ 34) (ap unsigned_abs (sym same) ∙ sym c.unsigned_abs.ensures.value) c.requires) in
    omega (arith, written.below, c.bits_of_magnitude-bits.ensures)

pub returns-then-halves-lt0-clause-exact : goal.returns-then-halves-lt0-clause-exact
returns-then-halves-lt0-clause-exact c = subst (λ bits. HalfDouble bits c.args.halves) (sym (minus c)) (half_stands c.args.halves c.requires)

pub returns-then-halves-lt0-clause-value : goal.returns-then-halves-lt0-clause-value
returns-then-halves-lt0-clause-value = minus

pub returns-else-halves-lt0-clause-exact : goal.returns-else-halves-lt0-clause-exact
returns-else-halves-lt0-clause-exact c = subst (λ bits. HalfDouble bits c.args.halves) (sym (plus c)) (half_stands c.args.halves c.requires)

pub returns-else-halves-lt0-clause-value : goal.returns-else-halves-lt0-clause-value
returns-else-halves-lt0-clause-value = plus
