use Rattle.std.proofs.Common.{◌≡◌, ◌+◌, ◌≤◌, [], length, take, IsTrue}
use Rattle.outside_io.specs.declared.volume.VolFile.TheVariants.{Bundle}
use Rattle.outside_io.specs.volume.History.{During, contents, current}
use Rattle.bundle_store.specs.inside.Parts.{Gathers, KeepsJournal}
use Rattle.bundle_store.specs.inside.Table.{table_map}
use Rattle.bundle_store.specs.Layout.{records}
use Rattle.bundle_store.proofs.build.laying.write_records.Given as goal

abbrev pub invariant-loop-slot : goal.invariant-loop-slot
invariant-loop-slot g l = record {
  at : l.waiting.at + l.waiting.count ≡ 131136 + length (records (table_map l.tiles l.table) l.slot);
  count : l.waiting.count ≤ length l.buffer;
  done : IsTrue (g.V.Volume.told l.fn.vol) → Gathers (current (g.V.Volume.history l.fn.vol)) (current (g.V.Volume.history l.vol)) [] (take l.waiting.count l.buffer) (records (table_map l.tiles l.table) l.slot);
  end : IsTrue (g.V.Volume.told l.fn.vol) → l.waiting.at ≡ length (contents Bundle (g.V.Volume.history l.vol));
  during : IsTrue (g.V.Volume.told l.fn.vol) → During (KeepsJournal (current (g.V.Volume.history l.fn.vol))) (g.V.Volume.history l.fn.vol) (g.V.Volume.history l.vol);
  told : g.V.Volume.told l.vol ≡ g.V.Volume.told l.fn.vol;
  counted : g.V.Volume.faults l.vol ≡ g.V.Volume.faults l.fn.vol;
}
