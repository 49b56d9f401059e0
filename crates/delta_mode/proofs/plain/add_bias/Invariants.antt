use Rattle.std.proofs.Common.{◌≡◌, ℕ, ◌+◌, ◌%◌, ◌<◌, ◌≤◌, length, get_or}
use Rattle.delta_mode.proofs.plain.add_bias.Given as goal

abbrev pub invariant-loop-i : goal.invariant-loop-i
invariant-loop-i l = record {
  room : length l.bytes ≡ length l.fn.bytes;
  done : (k : ℕ) → k < l.i → get_or l.bytes k 0 ≡ (get_or l.fn.bytes k 0 + 128) % 256;
  open_ : (k : ℕ) → l.i ≤ k → get_or l.bytes k 0 ≡ get_or l.fn.bytes k 0;
}
