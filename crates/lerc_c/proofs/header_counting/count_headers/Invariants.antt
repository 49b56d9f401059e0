use Rattle.std.proofs.Common.{◌-◌, ◌≤◌, length, take}
use Rattle.lerc_c.specs.HeadedBands.{AreHeaded}
use Rattle.lerc_c.proofs.header_counting.count_headers.Given as goal

abbrev pub invariant-loop-at : goal.invariant-loop-at
invariant-loop-at l = record {
  within : l.at ≤ length l.tile;
  some : 1 ≤ l.count;
  few : l.count ≤ 16;
  stand : AreHeaded (take l.at l.tile) l.count;
}

abbrev pub decreases-loop-at : goal.decreases-loop-at
decreases-loop-at l = length l.tile - l.at
