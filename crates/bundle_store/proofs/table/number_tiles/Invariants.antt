use Rattle.std.proofs.Common.{◌≡◌, length, take}
use Rattle.bundle_store.specs.inside.Table.{IsTable, table_map}
use Rattle.bundle_store.specs.Build.{last_tiles}
use Rattle.bundle_store.proofs.table.number_tiles.Given as goal

abbrev pub invariant-loop-number : goal.invariant-loop-number
invariant-loop-number l = record {
  long : length l.table.items ≡ 16384;
  table : IsTable l.tiles l.table.items;
  last : table_map l.tiles l.table.items ≡ last_tiles (take l.number l.tiles);
}
