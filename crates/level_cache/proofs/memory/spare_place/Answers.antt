use Rattle.std.proofs.Common.{arith}
use Rattle.level_cache.proofs.Places.{first_spare, spare_all, spare_step}
use Rattle.level_cache.proofs.memory.spare_place.Goals as goal

pub returns-then-is_spare-clause-found : goal.returns-then-is_spare-clause-found
returns-then-is_spare-clause-found c = first_spare c.args.places.now c.loop-at.at c.index-places-at.result c.index-places-at.is (omega (arith, c.loop-at-test.true)) (c.is_spare.ensures.spare c.if-is_spare.true)

pub loop-at-preserved : goal.loop-at-preserved
loop-at-preserved c = spare_step c.args.places.now c.loop-at.at c.index-places-at.result c.index-places-at.is (omega (arith, c.loop-at-test.true)) c.loop-at.invariant (c.is_spare.ensures.not c.if-is_spare.false)

pub returns-clause-none : goal.returns-clause-none
returns-clause-none c = λ is. spare_all c.args.places.now c.loop-at.at (omega (arith, c.loop-at-test.false)) c.loop-at.invariant
