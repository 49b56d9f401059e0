use Rattle.std.proofs.Common.{◌≡◌, ℕ, ◌+◌, ◌*◌, ◌<◌, length, get_or}
use Rattle.delta_mode.proofs.giving_plain.spread.Given as goal

abbrev pub invariant-loop-i : goal.invariant-loop-i
invariant-loop-i l = record {
  room : length l.out ≡ length l.fn.out;
  symbols : (k : ℕ) → k < l.i → get_or l.out (k * l.depth + l.d) 0 ≡ get_or l.symbols k 0;
  others : (q e : ℕ) → e < l.depth → (e ≡ l.d → ⊥) → get_or l.out (q * l.depth + e) 0 ≡ get_or l.fn.out (q * l.depth + e) 0;
}
