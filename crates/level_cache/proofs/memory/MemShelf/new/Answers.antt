use Rattle.std.proofs.Common.{◌≡◌, subst, sym, length}
use Rattle.std.proofs.lemmas.Iterator.Adapters.{YieldsList-from_vec}
use Rattle.std.proofs.lemmas.Iterator.Consumers.{YieldsList-end}
use Rattle.level_cache.specs.inside.Places.{HaveVolumes, SparesAreNew}
use Rattle.level_cache.proofs.Places.{all_fresh, fresh_have, fresh_spares}
use Rattle.level_cache.proofs.memory.MemShelf.new.Goals as goal

pub invariant_of-result : goal.invariant_of-result
invariant_of-result c =
    let gives = c.into_iter-vol-iterator.ensures.into_iter_gives in
    let len : c.into_iter-vol-iterator.result.rest.len ≡ length c.args.spare.items = cc in
    let from = YieldsList-from_vec c.args.spare.items gives.0 len in
    let t = YieldsList-end from c.loop-vol.yielded c.loop-vol.vol-iterator c.loop-vol.yielded_by c.next.result c.next.new.self c.in-None.is c.next.ensures.steps in
    let e = all_fresh c.loop-vol.places.items c.loop-vol.yielded c.args.spare.items c.loop-vol.invariant t.0 in
    record { spares = subst SparesAreNew (sym e) (fresh_spares c.args.spare.items c.requires); lending = subst HaveVolumes (sym e) (fresh_have c.args.spare.items) }
