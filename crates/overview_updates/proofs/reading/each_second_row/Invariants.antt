use Rattle.std.proofs.Common.{◌≡◌, []}
use Rattle.overview_updates.proofs.reading.each_second_row.Given as goal

abbrev pub invariant-loop-number : goal.invariant-loop-number
invariant-loop-number l = l.ahead.bytes ≡ []
