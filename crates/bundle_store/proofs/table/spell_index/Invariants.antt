use Rattle.std.proofs.Common.{◌≡◌, ◌*◌, length, take}
use Rattle.bundle_store.specs.inside.Table.{table_map}
use Rattle.bundle_store.specs.Layout.{entries, records}
use Rattle.bundle_store.proofs.table.spell_index.Given as goal

abbrev pub invariant-loop-i : goal.invariant-loop-i
invariant-loop-i l = record {
  long : length l.index ≡ 131072;
  spelled : entries (table_map l.tiles l.table) l.i ≡ take (8 * l.i) l.index;
  end : l.end ≡ length (records (table_map l.tiles l.table) l.i);
}
