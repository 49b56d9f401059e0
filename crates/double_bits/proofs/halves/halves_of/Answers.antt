use Rattle.std.proofs.Common.{◌≡◌, suc, ap, ◌∙◌, sym, arith, pos, ◌-ℤ◌}
use Rattle.std.proofs.lemmas.Int.{ints}
use Rattle.std.specs.Prelude.{neg_ℤ}
use mir.Syntax.{w64}
use mir.Val.{to_z, of_z}
use Rattle.double_bits.specs.Halves.{signed, sign}
use Rattle.double_bits.proofs.Signs.{none_half, is_some_half, is_none_half, not_none_half}
use Rattle.double_bits.proofs.halves.halves_of.Goals as goal

pub returns-in_err-a-clause-exact : goal.returns-in_err-a-clause-exact
returns-in_err-a-clause-exact c h = (
  λ is. cc,
  λ known. absurd (none_half c.args.bits c.in_err-a.ensures.exact h known),
)

pub returns-in_err-a-clause-none : goal.returns-in_err-a-clause-none
returns-in_err-a-clause-none c = (
  λ is h known. none_half c.args.bits c.in_err-a.ensures.exact h known,
  λ none. is_none_half c.from_residual.result c.from_residual.ensures,
)

pub returns-then-bits-eq0-clause-exact : goal.returns-then-bits-eq0-clause-exact
returns-then-bits-eq0-clause-exact c h =
    let positive : to_z w64 c.in_ok-a.field-0 ≡ pos c.in_ok-a.field-0 = omega (arith, ints, c.in_ok-a.ensures.small) in
    is_some_half c.args.bits c.in_ok-a.field-0 c.in_ok-a.ensures.exact (to_z w64 c.in_ok-a.field-0) (positive ∙ ap (λ s. signed s c.in_ok-a.field-0) (sym c.if-bits-eq0.true)) h

pub returns-then-bits-eq0-clause-none : goal.returns-then-bits-eq0-clause-none
returns-then-bits-eq0-clause-none c = (
  λ is. cc,
  λ none. absurd (not_none_half c.args.bits c.in_ok-a.field-0 c.in_ok-a.ensures.exact none),
)

pub returns-else-bits-eq0-clause-exact : goal.returns-else-bits-eq0-clause-exact
returns-else-bits-eq0-clause-exact c h =
    let a = c.in_ok-a.field-0 in
    let one : sign c.args.bits ≡ suc 0 = omega (arith, c.if-bits-eq0.false, c.ranges.bits) in
    let negative : to_z w64 (of_z w64 (pos 0 -ℤ to_z w64 a)) ≡ neg_ℤ (pos a) = omega (arith, ints, c.in_ok-a.ensures.small) in
    is_some_half c.args.bits a c.in_ok-a.ensures.exact _ (negative ∙ ap (λ s. signed s a) (sym one)) h

pub returns-else-bits-eq0-clause-none : goal.returns-else-bits-eq0-clause-none
returns-else-bits-eq0-clause-none c = (
  λ is. cc,
  λ none. absurd (not_none_half c.args.bits c.in_ok-a.field-0 c.in_ok-a.ensures.exact none),
)
