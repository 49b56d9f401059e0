use Rattle.std.proofs.Common.{subst}
use Rattle.level_cache.specs.inside.Places.{LendsAt}
use Rattle.level_cache.proofs.Places.{cannot, ready_at, taken}
use Rattle.level_cache.proofs.memory.take_from.Goals as goal

pub lend-requires : goal.lend-requires
lend-requires c = ready_at c.args.base c.args.places.now c.in-Some.at c.in-Some.ensures.ready

pub unreachable-requires : goal.unreachable-requires
unreachable-requires c = cannot c.args.base c.args.places.now c.lend.new.places c.in-Some.at c.lend.result c.requires.volumes c.in-Some.ensures.ready c.lend.ensures c.in_default-lend.is

pub returns-clause-takes : goal.returns-clause-takes
returns-clause-takes c =
    taken c.args.base c.in-Some.at c.faults-faults.result c.args.places.now c.lend.new.places c.in-Some-lend.vol c.requires.volumes c.requires.spares c.faults-faults.ensures c.in-Some.ensures.ready
    (subst (λ r. LendsAt c.in-Some.at c.args.base c.args.places.now c.lend.new.places r) c.in-Some-lend.is c.lend.ensures)
