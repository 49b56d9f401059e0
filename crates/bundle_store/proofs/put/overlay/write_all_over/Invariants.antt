use Rattle.std.proofs.Common.{◌≡◌, IsTrue}
use Rattle.bundle_store.proofs.GroupWrites.{IsLaying}
use Rattle.bundle_store.proofs.put.overlay.write_all_over.Given as goal

abbrev pub invariant-loop-i : goal.invariant-loop-i
invariant-loop-i g l = record {
  so_far : IsTrue (g.V.Volume.told l.fn.vol) → IsLaying l.header l.group (g.V.Volume.history l.fn.vol) (g.V.Volume.history l.vol) l.i;
  told : g.V.Volume.told l.vol ≡ g.V.Volume.told l.fn.vol;
  counted : g.V.Volume.faults l.vol ≡ g.V.Volume.faults l.fn.vol;
}
