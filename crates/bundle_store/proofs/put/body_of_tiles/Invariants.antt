use Rattle.std.proofs.Common.{◌≡◌, ◌+◌, ◌≤◌, ℕ, List, length, take}
use Rattle.bundle_store.specs.GroupPuts.{AreTilesIn, bundle_with_tiles, group_records, new_entries}
use Rattle.bundle_store.specs.Kept.{Keeps}
use Rattle.bundle_store.proofs.put.body_of_tiles.Given as goal

abbrev pub invariant-loop-i : goal.invariant-loop-i
invariant-loop-i l = record {
  at : l.end ≡ l.len + length (group_records (take l.i l.tiles));
  entries : l.group ≡ new_entries l.len (take l.i l.tiles);
  are : AreTilesIn (take l.i l.tiles);
  keeps : (b : List ℕ) → 131136 ≤ length b → l.len ≡ length b → Keeps l.fn.front b → Keeps l.front (bundle_with_tiles b (take l.i l.tiles));
}
