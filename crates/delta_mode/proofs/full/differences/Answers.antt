use Rattle.std.proofs.Common.{length, subst}
use Rattle.delta_mode.specs.inside.Strided.{HaveCells}
use Rattle.delta_mode.proofs.full.differences.Goals as goal

pub read_differences-requires-clause-cells : goal.read_differences-requires-clause-cells
read_differences-requires-clause-cells c =
    subst (λ n. HaveCells n c.args.d c.args.cells.now c.args.place (length c.args.out.now)) c.if-depth-eq1.true c.requires.cells
