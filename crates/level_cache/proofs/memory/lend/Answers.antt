use Rattle.level_cache.proofs.Places.{lent_at}
use Rattle.level_cache.proofs.memory.lend.Goals as goal

pub returns : goal.returns
returns c = lent_at c.args.places.now c.args.at c.args.base _ c.take.result c.take.new.self c.take.ensures.value c.take.ensures.after
