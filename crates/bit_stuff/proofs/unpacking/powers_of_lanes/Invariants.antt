use Rattle.std.proofs.Common.{◌≡◌, ◌+◌, ◌-◌, ◌*◌, ◌%◌, ◌^◌, ◌<◌, ℕ, length, slice_index}
use Rattle.bit_stuff.proofs.unpacking.powers_of_lanes.Given as goal

abbrev pub invariant-loop-k : goal.invariant-loop-k
invariant-loop-k l = record {
  long : length l.powers ≡ 4;
  stand : (j : ℕ) → j < l.k → slice_index l.powers j ≡ 2 ^ (32 - l.width - (l.phase + l.width * j) % 8);
}
