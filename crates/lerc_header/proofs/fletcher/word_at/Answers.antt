use Rattle.std.proofs.Common.{arith}
use Rattle.lerc_header.proofs.Words.{get_or-words}
use Rattle.lerc_header.proofs.fletcher.word_at.Goals as goal

pub returns-clause-value : goal.returns-clause-value
returns-clause-value c = omega (arith, get_or-words c.args.bytes.now c.args.i c.requires)
