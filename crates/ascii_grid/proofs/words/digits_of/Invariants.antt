use Rattle.std.proofs.Common.{◌≡◌, take, All}
use Rattle.std.specs.Str.Parse.{digits_value}
use Rattle.outside_io.specs.program.Word.{IsDigit}
use Rattle.ascii_grid.proofs.words.digits_of.Given as goal

abbrev pub invariant-loop-digit : goal.invariant-loop-digit
invariant-loop-digit l = record {
  digits : All IsDigit (take l.digit-index l.digits);
  value : l.value ≡ digits_value 10 (take l.digit-index l.digits);
}
