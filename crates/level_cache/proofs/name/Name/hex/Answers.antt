use Rattle.level_cache.proofs.Naming.{hex_added}
use Rattle.level_cache.proofs.name.Name.hex.Goals as goal

pub returns-clause-added : goal.returns-clause-added
returns-clause-added c = hex_added c.args.n c.digits_of.result c.args.self.now c.digits.new.self c.digits.ensures.added c.digits_of.ensures.least c.digits_of.ensures.leading
