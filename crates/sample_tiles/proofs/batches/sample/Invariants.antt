use Rattle.std.proofs.Common.{◌-◌, ◌≡◌, ◌*◌, ◌≤◌}
use Rattle.sample_tiles.specs.Drawn.{drawn}
use Rattle.sample_tiles.specs.Sums.{AreSums}
use Rattle.sample_tiles.specs.inside.Batches.{AreRoomy}
use Rattle.sample_tiles.proofs.batches.sample.Given as goal

abbrev pub invariant-loop-sums : goal.invariant-loop-sums
invariant-loop-sums g l = record {
  few : l.sums.tiles ≤ l.count;
  roomy : AreRoomy l.sums;
  near : l.sums.worst ≤ 1;
  sums : AreSums l.start l.sums.tiles l.sums;
  number : l.x ≡ drawn l.start (4096 * l.sums.tiles);
}

abbrev pub decreases-loop-sums : goal.decreases-loop-sums
decreases-loop-sums g l = l.count - l.sums.tiles
