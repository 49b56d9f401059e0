use Rattle.std.proofs.Common.{◌≡◌, map, take}
use Rattle.lut_stuff.specs.Tables.{index_in}
use Rattle.lut_stuff.specs.inside.Slots.{ArePlaces}
use Rattle.lut_stuff.proofs.hashing.index_all.Given as goal

abbrev pub invariant-loop-i : goal.invariant-loop-i
invariant-loop-i l = record {
  places : ArePlaces l.entries l.slots l.places;
  written : take l.i l.out ≡ map (index_in l.entries) (take l.i l.values);
}
