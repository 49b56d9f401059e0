use Rattle.std.proofs.Common.{◌≡◌, ℕ, ◌<◌, get_or}
use Rattle.std.specs.Prelude.{◌&&◌, nat_lt}
use Rattle.overview_tiles.specs.inside.Means.{byte_bit}
use Rattle.overview_tiles.proofs.halving.mark_byte.Given as goal

abbrev pub invariant-loop-q : goal.invariant-loop-q
invariant-loop-q l = (p : ℕ) → p < 8 → byte_bit l.byte p ≡ (nat_lt p l.q && nat_lt 0 (get_or l.counts p 0))
