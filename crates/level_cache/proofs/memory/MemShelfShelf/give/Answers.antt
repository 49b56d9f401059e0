use Rattle.level_cache.proofs.Places.{gave}
use Rattle.level_cache.proofs.memory.MemShelfShelf.give.Goals as goal

pub invariant_of-self : goal.invariant_of-self
invariant_of-self c =
    let g = gave c.self.inside c.args.self.now c.in-Some.lent c.args.base c.args.vol.faults c.put_back.new.places.items c.args.vol c.self.invariant c.self.view_is c.in-Some.is c.requires.out c.put_back.ensures in
    record { spares = g.spares; lending = g.have }

pub returns-clause-put : goal.returns-clause-put
returns-clause-put c = (gave c.self.inside c.args.self.now c.in-Some.lent c.args.base c.args.vol.faults c.put_back.new.places.items c.args.vol c.self.invariant c.self.view_is c.in-Some.is c.requires.out c.put_back.ensures).put

pub returns-clause-same_spare : goal.returns-clause-same_spare
returns-clause-same_spare c = (gave c.self.inside c.args.self.now c.in-Some.lent c.args.base c.args.vol.faults c.put_back.new.places.items c.args.vol c.self.invariant c.self.view_is c.in-Some.is c.requires.out c.put_back.ensures).spare
