use Rattle.std.proofs.Common.{◌≡◌, ℕ, ◌<◌, ◌≤◌, length, get_or}
use Rattle.lut_stuff.proofs.reading.look_up.Given as goal

abbrev pub invariant-loop-value : goal.invariant-loop-value
invariant-loop-value l =
    ((k : ℕ) → k < l.value-index → get_or l.fn.out k 0 < length l.table)
    × ((k : ℕ) → k < l.value-index → get_or l.out k 0 ≡ get_or l.table (get_or l.fn.out k 0) 0)
    × ((k : ℕ) → l.value-index ≤ k → get_or l.out k 0 ≡ get_or l.fn.out k 0)
