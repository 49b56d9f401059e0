use Rattle.std.proofs.Common.{◌≡◌, take, All}
use Rattle.outside_io.specs.program.Word.{IsDigit, decimal_value}
use Rattle.outside_io.proofs.program.word.decimal.Given as goal

abbrev pub invariant-loop-digit : goal.invariant-loop-digit
invariant-loop-digit l = record {
  digits : All IsDigit (take l.digit-index l.digits);
  value : l.value ≡ decimal_value (take l.digit-index l.digits);
}
