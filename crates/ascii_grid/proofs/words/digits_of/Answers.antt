use Rattle.std.proofs.Common.{rules, ◌≡◌, ◌<◌, arith, ap, get_or, take, length}
use Rattle.std.proofs.lemmas.List.{take_all}
use Rattle.std.proofs.lemmas.List.Elements.{All-more}
use Rattle.outside_io.specs.program.Word.{IsDigit}
use Rattle.ascii_grid.proofs.DigitSteps.{digits_below, digits_few, digits_more}
use Rattle.ascii_grid.proofs.words.digits_of.Goals as goal

pub overflow_mul-value : goal.overflow_mul-value
overflow_mul-value c =
    let small : c.loop-digit.value < 1000000000 = rw c.loop-digit.invariant.value (digits_few c.args.digits.now c.loop-digit.digit-index (omega arith) c.loop-digit.invariant.digits) in
    omega arith

pub overflow_add-value : goal.overflow_add-value
overflow_add-value c =
    let small : c.loop-digit.value < 1000000000 = rw c.loop-digit.invariant.value (digits_few c.args.digits.now c.loop-digit.digit-index (omega arith) c.loop-digit.invariant.digits) in
    omega arith

pub loop-digit-preserved : goal.loop-digit-preserved
loop-digit-preserved c =
    let digit : IsDigit (get_or c.args.digits.now c.loop-digit.digit-index 0) = search rules in
    record {
      digits = All-more IsDigit _ _ 0 c.loop-digit-test.true c.loop-digit.invariant.digits digit;
      value = grind (arith, c.from.ensures, c.loop-digit.invariant.value, digits_more c.args.digits.now c.loop-digit.digit-index c.loop-digit-test.true digit, digit);
    }

pub returns-clause-below : goal.returns-clause-below
returns-clause-below c =
    let all : take c.loop-digit.digit-index c.args.digits.now ≡ c.args.digits.now = take_all c.loop-digit.digit-index c.args.digits.now (omega arith) in
    let small = digits_below (take c.loop-digit.digit-index c.args.digits.now) 10 (omega (arith, ap length all, c.requires)) c.loop-digit.invariant.digits in
    omega (arith, small, c.loop-digit.invariant.value)
