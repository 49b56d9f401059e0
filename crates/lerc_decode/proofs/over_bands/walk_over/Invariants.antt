use Rattle.std.proofs.Common.{◌-◌, ◌≤◌, length}
use Rattle.lerc_decode.specs.inside.OverWalk.{HaveFront}
use Rattle.lerc_decode.proofs.over_bands.walk_over.Given as goal

abbrev pub invariant-loop-count : goal.invariant-loop-count
invariant-loop-count l = record {
  some : 1 ≤ l.count;
  few : l.count ≤ l.bands;
  within : l.at ≤ length l.tile;
  front : HaveFront l.tile l.at l.first l.count l.values l.masks;
}

abbrev pub decreases-loop-count : goal.decreases-loop-count
decreases-loop-count l = l.bands - l.count
