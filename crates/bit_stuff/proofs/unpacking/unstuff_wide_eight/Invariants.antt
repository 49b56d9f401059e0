use Rattle.std.proofs.Common.{◌≡◌, ℕ, ◌+◌, ◌<◌, slice_index}
use Rattle.bit_stuff.specs.Stuffed.{field_at, number_of_bytes}
use Rattle.bit_stuff.proofs.unpacking.unstuff_wide_eight.Given as goal

abbrev pub invariant-loop-k : goal.invariant-loop-k
invariant-loop-k l = (j : ℕ) → j < l.done + l.k → slice_index l.out j ≡ field_at l.width (number_of_bytes l.bytes) j
