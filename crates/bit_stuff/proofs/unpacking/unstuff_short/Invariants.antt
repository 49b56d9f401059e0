use Rattle.std.proofs.Common.{◌≡◌, ℕ, ◌<◌, slice_index}
use Rattle.bit_stuff.specs.Stuffed.{field_at, number_of_bytes}
use Rattle.bit_stuff.proofs.unpacking.unstuff_short.Given as goal

abbrev pub invariant-loop-i : goal.invariant-loop-i
invariant-loop-i l = (k : ℕ) → k < l.i → slice_index l.out k ≡ field_at l.width (number_of_bytes l.bytes) k
