use Rattle.std.proofs.Common.{◌*◌, ◌+◌}
use Rattle.overview_updates.proofs.halves.+fn-halve-join+arg2+fn-halve-join+arg3+halve.Given as goal

abbrev pub decreases-halve : goal.decreases-halve
decreases-halve g l = 2 * l.workers

abbrev pub decreases-join+arg2 : goal.decreases-join+arg2
decreases-join+arg2 g l = 2 * l.low + 1

abbrev pub decreases-join+arg3 : goal.decreases-join+arg3
decreases-join+arg3 g l = 2 * l.high + 1
