use Rattle.std.proofs.Common.{arith}
use Rattle.lerc_c.proofs.Repeating.{all_zero}
use Rattle.lerc_c.proofs.encoding.are_zero.Goals as goal

pub returns-then-bytes-eq0 : goal.returns-then-bytes-eq0
returns-then-bytes-eq0 c = λ t. all_zero c.args.bytes.now (let z = c.if-bytes-eq0.true in omega (arith, z)) (c.repeat.ensures.0 t)
