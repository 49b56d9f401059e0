use Rattle.std.proofs.Common.{◌≡◌, ℕ, ◌+◌, ◌<◌, length, get_or}
use Rattle.delta_mode.specs.inside.Starts.{between}
use Rattle.delta_mode.proofs.starts.differences.Given as goal

abbrev pub invariant-loop-j : goal.invariant-loop-j
invariant-loop-j l = record {
  room : length l.out ≡ length l.fn.out;
  done : (k : ℕ) → k < l.j → get_or l.out k 0 ≡ between l.bias (get_or l.distances (k + 1) 0) (get_or l.distances k 0);
}
