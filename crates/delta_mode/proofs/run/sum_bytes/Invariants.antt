use Rattle.std.proofs.Common.{◌≡◌, ℕ, ◌+◌, ◌%◌, ◌<◌, ◌≤◌, length, get_or}
use Rattle.lane_kernels.specs.Running.{byte_before}
use Rattle.delta_mode.proofs.run.sum_bytes.Given as goal

abbrev pub invariant-loop-i : goal.invariant-loop-i
invariant-loop-i l = record {
  room : length l.symbols ≡ length l.fn.symbols;
  byte : l.byte ≡ byte_before l.fn.first l.symbols l.i;
  done : (k : ℕ) → k < l.i → get_or l.symbols k 0 ≡ (byte_before l.fn.first l.symbols k + (get_or l.fn.symbols k 0 + l.fn.added) % 256) % 256;
  rest : (k : ℕ) → l.i ≤ k → get_or l.symbols k 0 ≡ get_or l.fn.symbols k 0;
}
