use Rattle.std.proofs.Common.{◌≤◌, take}
use Rattle.lut_stuff.specs.inside.Slots.{AreDistinct, AreSlots}
use Rattle.lut_stuff.proofs.hashing.gather_distinct.Given as goal

abbrev pub invariant-loop-value : goal.invariant-loop-value
invariant-loop-value l = record {
  slots : AreSlots (take l.value-index l.values) l.slots;
  found : AreDistinct (take l.value-index l.values) (take l.count l.found);
  few : l.count ≤ l.value-index;
  low : l.count ≤ 254;
}
