use Rattle.std.proofs.Common.{◌≡◌, ℕ, ◌+◌, ◌-◌, ◌<◌, ◌≤◌, length, get_or}
use Rattle.delta_mode.specs.inside.Bytewise.{wrapped}
use Rattle.delta_mode.specs.inside.Strided.{cell}
use Rattle.delta_mode.proofs.full.read_differences.Given as goal

abbrev pub invariant-loop-i : goal.invariant-loop-i
invariant-loop-i l = record {
  room : length l.out ≡ length l.fn.out;
  done : (k : ℕ) → l.from ≤ k → k < l.i → get_or l.out k 0 ≡ wrapped l.bias (cell l.depth l.d l.cells (l.place + k)) (cell l.depth l.d l.cells (l.place + k - 1));
}
