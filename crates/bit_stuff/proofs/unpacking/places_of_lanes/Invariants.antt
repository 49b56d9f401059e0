use Rattle.std.proofs.Common.{◌≡◌, ◌+◌, ◌*◌, ◌/◌, ◌%◌, ◌<◌, ℕ, length, slice_index}
use Rattle.bit_stuff.proofs.unpacking.places_of_lanes.Given as goal

abbrev pub invariant-loop-i : goal.invariant-loop-i
invariant-loop-i l = record {
  long : length l.places ≡ 16;
  stand : (j : ℕ) → j < l.i → slice_index l.places j ≡ (l.phase + l.width * (j / 4)) / 8 + j % 4;
}
