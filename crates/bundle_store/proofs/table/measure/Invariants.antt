use Rattle.std.proofs.Common.{◌≡◌, length}
use Rattle.bundle_store.specs.inside.Table.{table_map}
use Rattle.bundle_store.specs.Layout.{greatest_size, records}
use Rattle.bundle_store.proofs.table.measure.Given as goal

abbrev pub invariant-loop-slot : goal.invariant-loop-slot
invariant-loop-slot l = record { most : l.most ≡ greatest_size (table_map l.tiles l.table) l.slot; total : l.total ≡ length (records (table_map l.tiles l.table) l.slot) }
