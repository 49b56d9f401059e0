use Rattle.std.proofs.Common.{◌≡◌, ℕ, ◌-◌, ◌*◌, ◌<◌, ◌≤◌, length, slice_index}
use Rattle.bit_stuff.specs.Stuffed.{field_at, number_of_bytes}
use Rattle.bit_stuff.proofs.unpacking.unstuff_wide_eights.Given as goal

abbrev pub invariant-loop-done : goal.invariant-loop-done
invariant-loop-done l = (l.done ≤ length l.out) × (8 * l.at ≡ l.width * l.done)
    × ((k : ℕ) → k < l.done → slice_index l.out k ≡ field_at l.width (number_of_bytes l.bytes) k)

abbrev pub decreases-loop-done : goal.decreases-loop-done
decreases-loop-done l = length l.out - l.done
