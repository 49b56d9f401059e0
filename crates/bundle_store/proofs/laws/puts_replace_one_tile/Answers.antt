use Rattle.bundle_store.proofs.PutLaws.{put_readable, put_replaces}
use Rattle.bundle_store.proofs.laws.puts_replace_one_tile.Goals as goal

pub returns-clause-readable : goal.returns-clause-readable
returns-clause-readable c = λ b tile slot readable below some small room. put_readable b tile slot readable below some small room

pub returns-clause-tiles : goal.returns-clause-tiles
returns-clause-tiles c = λ b tile slot readable below some small room. put_replaces b tile slot readable below some small room
