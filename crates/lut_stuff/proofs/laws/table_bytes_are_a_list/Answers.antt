use Rattle.std.proofs.Common.{arith}
use Rattle.lut_stuff.proofs.Tabled.{distinct_some, some_distinct, table_list}
use Rattle.lut_stuff.proofs.laws.table_bytes_are_a_list.Goals as goal

pub returns-clause-list : goal.returns-clause-list
returns-clause-list c = λ values small below some few. table_list values small below some (omega (arith, few))

pub returns-clause-some : goal.returns-clause-some
returns-clause-some c = λ values. (λ some. some_distinct values some, λ some. distinct_some values some)
