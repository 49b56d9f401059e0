use Rattle.std.proofs.Common.{refl}
use Rattle.level_cache.proofs.Places.{have_at, left_full, no_spare, none_left, not_left, ready_own}
use Rattle.level_cache.proofs.memory.ready_place.Goals as goal

pub returns-in-Some-clause-ready : goal.returns-in-Some-clause-ready
returns-in-Some-clause-ready c = ready_own c.args.base c.args.places.now c.in-Some.at c.index-places-at.result c.index-places-at.is c.in-Some.ensures.found (c.can_count.ensures.can c.if-can_count.true)

pub returns-in-Some-clause-none : goal.returns-in-Some-clause-none
returns-in-Some-clause-none c = (
  λ is. absurd cc,
  λ left. absurd (not_left c.args.base c.args.places.now c.in-Some.at c.index-places-at.result c.index-places-at.is c.in-Some.ensures.found (c.can_count.ensures.can c.if-can_count.true) left),
)

pub returns-in-Some-2-clause-none : goal.returns-in-Some-2-clause-none
returns-in-Some-2-clause-none c = (
  λ is. left_full c.args.base c.args.places.now c.in-Some.at c.index-places-at.result c.index-places-at.is c.in-Some.ensures.found
      (c.can_count.ensures.full c.if-can_count.false (have_at c.args.places.now c.in-Some.at c.index-places-at.result c.index-places-at.is c.in-Some.ensures.found.cut c.requires)),
  λ left. refl,
)

pub returns-in-None-clause-none : goal.returns-in-None-clause-none
returns-in-None-clause-none c = (
  λ none. none_left c.args.base c.args.places.now (c.place_of.ensures.none c.in-None.is) (c.spare_place.ensures.none none),
  λ left. no_spare c.args.base c.args.places.now c.spare_place.result c.spare_place.ensures.found (c.place_of.ensures.none c.in-None.is) left,
)
