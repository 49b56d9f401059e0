use Rattle.std.proofs.Common.{◌≡◌, ◌+◌, length, take, IsTrue}
use Rattle.bundle_store.specs.GroupPuts.{group_records}
use Rattle.bundle_store.proofs.GroupWrites.{Appending}
use Rattle.bundle_store.proofs.put.append.append_records.Given as goal

abbrev pub invariant-loop-i : goal.invariant-loop-i
invariant-loop-i g l = record {
  at : l.at ≡ l.end + length (group_records (take l.i l.tiles));
  so_far : IsTrue (g.V.Volume.told l.fn.vol) → Appending (g.V.Volume.history l.fn.vol) (g.V.Volume.history l.vol) (group_records (take l.i l.tiles));
  told : g.V.Volume.told l.vol ≡ g.V.Volume.told l.fn.vol;
  counted : g.V.Volume.faults l.vol ≡ g.V.Volume.faults l.fn.vol;
}
