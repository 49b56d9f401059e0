use Rattle.std.proofs.Common.{arith}
use Rattle.level_cli.proofs.words.row_or_col_of.Goals as goal

pub overflow_cast-result : goal.overflow_cast-result
overflow_cast-result c = omega (arith, ((c.number_within.ensures c.in-Some.n).0 c.in-Some.is).2)
