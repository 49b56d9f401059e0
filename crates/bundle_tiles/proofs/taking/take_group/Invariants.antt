use Rattle.std.proofs.Common.{◌≡◌, ◌+◌, ◌*◌, ◌≤◌, length}
use Rattle.bundle_tiles.specs.inside.Groups.{TookGroup}
use Rattle.bundle_tiles.proofs.taking.take_group.Given as goal

abbrev pub invariant-loop-tile : goal.invariant-loop-tile
invariant-loop-tile g l = record {
  took : TookGroup (g.S.Source.left l.fn.src) (g.S.Source.left l.src) l.at l.end l.tiles.items;
  count : length l.tiles.items ≡ l._tile;
  place : l.end ≤ l.at + 16777222 * length l.tiles.items;
  counted : g.S.Source.faults l.src ≡ g.S.Source.faults l.fn.src;
}
