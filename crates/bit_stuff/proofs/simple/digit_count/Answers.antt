use Rattle.std.proofs.Common.{arith}
use Rattle.bit_stuff.proofs.Digits.{digits-le, leading_digits}
use Rattle.bit_stuff.proofs.simple.digit_count.Goals as goal

pub returns-clause-value : goal.returns-clause-value
returns-clause-value c = omega (arith, leading_digits 32 c.args.n (omega arith))

pub returns-clause-least : goal.returns-clause-least
returns-clause-least c = λ k below. omega (arith, leading_digits 32 c.args.n (omega arith), digits-le k c.args.n below)
