use Rattle.std.proofs.Common.{rules, ◌<◌, arith}
use Rattle.outside_io.proofs.ProgramLemmas.Digits.{decimal_value_small, decimal_value_more}
use Rattle.std.proofs.lemmas.List.Elements.{All-more}
use Rattle.outside_io.specs.program.Word.{IsDigit}
use Rattle.outside_io.proofs.program.word.decimal.Goals as goal

pub overflow_mul-value : goal.overflow_mul-value
overflow_mul-value c =
    let small : c.loop-digit.value < 1000000000 = rw c.loop-digit.invariant.value (decimal_value_small c.args.digits.now c.loop-digit.digit-index (omega arith) c.loop-digit.invariant.digits) in
    omega arith

pub overflow_add-value : goal.overflow_add-value
overflow_add-value c =
    let small : c.loop-digit.value < 1000000000 = rw c.loop-digit.invariant.value (decimal_value_small c.args.digits.now c.loop-digit.digit-index (omega arith) c.loop-digit.invariant.digits) in
    omega arith

pub loop-digit-preserved : goal.loop-digit-preserved
loop-digit-preserved c = record {
  digits = All-more IsDigit _ _ 0 c.loop-digit-test.true c.loop-digit.invariant.digits (search rules);
  value = grind (arith, c.from.ensures, c.loop-digit.invariant.value, decimal_value_more c.args.digits.now c.loop-digit.digit-index c.loop-digit-test.true);
}
