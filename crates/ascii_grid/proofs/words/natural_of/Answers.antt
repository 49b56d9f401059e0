use Rattle.std.proofs.Common.{◌∙◌, arith, length, sym}
use Rattle.ascii_grid.proofs.DigitSteps.{not_empty}
use Rattle.ascii_grid.proofs.words.natural_of.Goals as goal

pub returns-clause-value : goal.returns-clause-value
returns-clause-value c = λ n.
    let told = c.digits_of.ensures.value n in
    let some = not_empty (length c.args.digits.now) (sym c.if-is_empty.false ∙ c.is_empty.ensures) in
    (λ is. record { digits = (told.0 is).0; some = some; few = omega (arith, c.if-digits-gt10.false); value = (told.0 is).1 }, λ are. told.1 (are.digits, are.value))
