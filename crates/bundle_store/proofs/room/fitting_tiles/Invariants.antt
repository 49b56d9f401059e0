use Rattle.std.proofs.Common.{◌≡◌, ◌+◌, ◌<◌, ◌≤◌, ◌^◌, length, take}
use Rattle.bundle_store.specs.Fitting.{HasRoomFirst}
use Rattle.bundle_store.specs.GroupPuts.{group_records}
use Rattle.bundle_store.proofs.room.fitting_tiles.Given as goal

abbrev pub invariant-loop-i : goal.invariant-loop-i
invariant-loop-i l = record {
  at : l.end ≡ l.len + length (group_records (take l.i l.tiles));
  small : 0 < l.i → l.end ≤ 2 ^ 40;
  first : HasRoomFirst l.len l.tiles l.i;
}
