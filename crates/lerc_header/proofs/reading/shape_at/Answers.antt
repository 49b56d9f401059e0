use Rattle.std.proofs.Common.{arith, rules}
use Rattle.std.proofs.lemmas.Int.{ints}
use Rattle.lerc_header.proofs.reading.shape_at.Goals as goal

pub returns-then-rows-lt1-clause-fault : goal.returns-then-rows-lt1-clause-fault
returns-then-rows-lt1-clause-fault c = search rules

pub returns-then-cols-lt1-clause-fault : goal.returns-then-cols-lt1-clause-fault
returns-then-cols-lt1-clause-fault c = search rules

pub returns-then-depth-lt1-clause-fault : goal.returns-then-depth-lt1-clause-fault
returns-then-depth-lt1-clause-fault c = search rules

pub returns-then-not-is_shape-clause-fault : goal.returns-then-not-is_shape-clause-fault
returns-then-not-is_shape-clause-fault c = search rules

pub returns-clause-fault : goal.returns-clause-fault
returns-clause-fault c = search rules

pub overflow_cast-shape : goal.overflow_cast-shape
overflow_cast-shape c = omega (arith, ints, c.signed_at-rows.type_inv, c.if-rows-lt1.false)

pub overflow_cast-shape-2 : goal.overflow_cast-shape-2
overflow_cast-shape-2 c = omega (arith, ints, c.signed_at-cols.type_inv, c.if-cols-lt1.false)
