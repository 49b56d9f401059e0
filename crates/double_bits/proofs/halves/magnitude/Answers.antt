use Rattle.std.proofs.Common.{◌≡◌, ◌+◌, ◌-◌, ◌*◌, ◌/◌, ◌^◌, ◌<◌, Some, arith, ap, subst, inl, inr}
use Rattle.double_bits.specs.inside.Magnitude.{IsMagnitude}
use Rattle.double_bits.proofs.Powers.{no_magnitude, magnitude_gives, gives_magnitude, unshifted, kept, quotient_only, quotient_small}
use Rattle.double_bits.proofs.halves.magnitude.Goals as goal
use Rattle.double_bits.proofs.halves.magnitude.Goals.{then-exponent-lt-LEAST_EXPONENT-via-then-exponent-lt-LEAST_EXPONENT, then-exponent-lt-LEAST_EXPONENT-via-else-exponent-lt-LEAST_EXPONENT+then-exponent-gt-GREATEST_EXPONENT}

pub returns-then-exponent-lt-LEAST_EXPONENT-clause-exact : goal.returns-then-exponent-lt-LEAST_EXPONENT-clause-exact
returns-then-exponent-lt-LEAST_EXPONENT-clause-exact c a = (
  λ e. cc,
  λ h. absurd (no_magnitude c.args.exponent c.args.fraction a (omega arith) c.requires
      (elim c.then-exponent-lt-LEAST_EXPONENT.branch [
        | then-exponent-lt-LEAST_EXPONENT-via-then-exponent-lt-LEAST_EXPONENT w ↦ inl w.if-exponent-lt-LEAST_EXPONENT.true
        | then-exponent-lt-LEAST_EXPONENT-via-else-exponent-lt-LEAST_EXPONENT+then-exponent-gt-GREATEST_EXPONENT w ↦ inr w.if-exponent-gt-GREATEST_EXPONENT.true
      ]) h),
)

pub returns-then-magnitude-shift-clause-exact : goal.returns-then-magnitude-shift-clause-exact
returns-then-magnitude-shift-clause-exact c a =
    let m = 2 ^ 52 + c.args.fraction in
    let k = 1074 - c.args.exponent in (
      λ e. cc,
      λ h. absurd (c.if-magnitude-shift.true (kept m k a (omega (arith, c.requires)) (magnitude_gives c.args.exponent c.args.fraction a (omega arith) (omega arith) h))),
    )

pub returns-clause-small : goal.returns-clause-small
returns-clause-small c = quotient_small (2 ^ 52 + c.args.fraction) (1074 - c.args.exponent) (omega arith) (omega (arith, c.requires))

pub returns-clause-exact : goal.returns-clause-exact
returns-clause-exact c a =
    let m = 2 ^ 52 + c.args.fraction in
    let k = 1074 - c.args.exponent in
    let small : m / 2 ^ k < 2 ^ 34 = quotient_small m k (omega arith) (omega (arith, c.requires)) in
    let whole : m / 2 ^ k * 2 ^ k ≡ m = unshifted m k (omega (arith, c.requires)) c.if-magnitude-shift.false in
    let is : IsMagnitude c.args.exponent c.args.fraction (m / 2 ^ k) = gives_magnitude c.args.exponent c.args.fraction (m / 2 ^ k) (omega arith) (omega arith) small whole in (
      λ e. let same : m / 2 ^ k ≡ a = cc in subst (IsMagnitude c.args.exponent c.args.fraction) same is,
      λ h. ap Some (quotient_only m k a whole (magnitude_gives c.args.exponent c.args.fraction a (omega arith) (omega arith) h)),
    )
