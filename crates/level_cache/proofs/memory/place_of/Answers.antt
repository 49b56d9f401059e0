use Rattle.std.proofs.Common.{sym, ◌∙◌, arith}
use Rattle.level_cache.proofs.Places.{first_of, not_all, not_step}
use Rattle.level_cache.proofs.memory.place_of.Goals as goal

pub returns-then-is_of-clause-found : goal.returns-then-is_of-clause-found
returns-then-is_of-clause-found c = first_of c.args.base c.args.places.now c.loop-at.at c.index-places-at.result c.index-places-at.is (omega (arith, c.loop-at-test.true)) c.loop-at.invariant (sym c.is_of.ensures ∙ c.if-is_of.true)

pub loop-at-preserved : goal.loop-at-preserved
loop-at-preserved c = not_step c.args.base c.args.places.now c.loop-at.at c.index-places-at.result c.index-places-at.is (omega (arith, c.loop-at-test.true)) c.loop-at.invariant (sym c.is_of.ensures ∙ c.if-is_of.false)

pub returns-clause-none : goal.returns-clause-none
returns-clause-none c = λ is. not_all c.args.base c.args.places.now c.loop-at.at (omega (arith, c.loop-at-test.false)) c.loop-at.invariant
