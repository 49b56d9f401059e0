use Rattle.std.proofs.Common.{◌≡◌, ◌≤◌}
use Rattle.bundle_store.specs.inside.Table.{table_map}
use Rattle.bundle_store.specs.Built.{filled}
use Rattle.bundle_store.proofs.table.count_tiles.Given as goal

abbrev pub invariant-loop-slot : goal.invariant-loop-slot
invariant-loop-slot l = record { count : l.count ≡ filled (table_map l.tiles l.table) l.slot; few : l.count ≤ l.slot }
