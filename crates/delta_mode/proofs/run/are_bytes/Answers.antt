use Rattle.std.proofs.Common.{arith}
use Rattle.delta_mode.proofs.run.are_bytes.Goals as goal

pub returns : goal.returns
returns c i = omega (arith, c.type_inv.symbols i)
