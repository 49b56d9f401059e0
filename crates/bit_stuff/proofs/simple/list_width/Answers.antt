use Rattle.std.proofs.Common.{◌≡◌, ◌^◌, ◌<◌, ℕ, sym, ap, ◌∙◌, subst, arith}
use Rattle.std.specs.Prelude.{All}
use Rattle.std.proofs.lemmas.List.Elements.{All-from_get_or}
use Rattle.bit_stuff.specs.Simple.{binary_digits, width_of}
use Rattle.bit_stuff.proofs.Digits.{below_width, width_of-le}
use Rattle.bit_stuff.proofs.simple.list_width.Goals as goal

pub returns-clause-value : goal.returns-clause-value
returns-clause-value c = c.digit_count.ensures.value ∙ ap binary_digits c.greatest_of.ensures

pub returns-clause-holds : goal.returns-clause-holds
returns-clause-holds c =
    let values = c.args.values.now in
    let value : c.digit_count.result ≡ width_of values = c.digit_count.ensures.value ∙ ap binary_digits c.greatest_of.ensures in
    let words : All (λ v. v < 2 ^ 32) values = All-from_get_or (λ v. v < 2 ^ 32) values 0 (λ i _. omega (arith, c.type_inv.values i)) in
    subst (λ (w : ℕ). All (λ v. v < 2 ^ w) values) (sym value) (below_width 32 values words)

pub returns-clause-least : goal.returns-clause-least
returns-clause-least c = λ k below.
    let value : c.digit_count.result ≡ width_of c.args.values.now = c.digit_count.ensures.value ∙ ap binary_digits c.greatest_of.ensures in
    omega (arith, value, width_of-le k c.args.values.now below)
