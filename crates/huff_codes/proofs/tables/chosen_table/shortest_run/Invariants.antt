use Rattle.std.proofs.Common.{◌+◌, ◌≤◌}
use Rattle.huff_codes.specs.inside.Gaps.{IsGapBefore}
use Rattle.huff_codes.proofs.ChosenRuns.{IsBestBelow}
use Rattle.huff_codes.proofs.tables.chosen_table.shortest_run.Given as goal

abbrev pub invariant-loop-symbol : goal.invariant-loop-symbol
invariant-loop-symbol l = record {
  low : l.gap ≤ 255;
  gap : IsGapBefore l.lengths l.symbol l.gap;
  best : IsBestBelow l.lengths l.best (l.symbol + 1);
}
