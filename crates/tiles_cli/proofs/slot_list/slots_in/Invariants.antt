use Rattle.std.proofs.Common.{◌≤◌, ◌-◌, length, take}
use Rattle.tiles_cli.specs.SlotList.{IsSlotList}
use Rattle.tiles_cli.proofs.slot_list.slots_in.Given as goal

abbrev pub invariant-loop-at : goal.invariant-loop-at
invariant-loop-at l = record {
  within : l.at ≤ length l.text;
  listed : IsSlotList (take l.at l.text) l.slots.items;
}

abbrev pub decreases-loop-at : goal.decreases-loop-at
decreases-loop-at l = length l.text - l.at
