use Rattle.std.proofs.Common.{arith, ◌<◌, length, sym, subst}
use Rattle.std.proofs.lemmas.Bool.Decides.{nat_tests}
use Rattle.outside_io.specs.program.Word.{IsNumber}
use Rattle.outside_io.proofs.program.word.Word.number.Goals as goal

pub returns : goal.returns
returns c =
    let some : 0 < length c.as_slice-word.result.now = grind (arith, nat_tests, c.if-is_empty.false, c.is_empty.ensures) in
    λ n. (
      (λ found.
          let stands = (c.decimal.ensures n).0 found in
          subst (λ word. IsNumber word n) c.as_slice-word.ensures (record {
            digits = stands.0;
            some = some;
            at_most_ten = c.if-word-gt-MOST_DIGITS.false;
            no_leading_zero = λ long zero. grind (arith, c.has_leading_zero.ensures.1 (long, zero), c.if-has_leading_zero.false);
            value = stands.1;
          })),
      (λ number.
          let here : IsNumber c.as_slice-word.result.now n = subst (λ word. IsNumber word n) (sym c.as_slice-word.ensures) number in
          (c.decimal.ensures n).1 (here.digits, here.value)),
    )
