use Rattle.level_cache.proofs.Places.{put_at}
use Rattle.level_cache.proofs.memory.put_at.Goals as goal

pub returns-clause-lies : goal.returns-clause-lies
returns-clause-lies c = put_at c.args.places.now c.args.at c.index-places-at.result c.args.vol
