use Rattle.std.proofs.Common.{◌≡◌, ℕ, ◌<◌, slice_index, length}
use Rattle.std.specs.Prelude.{HoldsAt}
use Rattle.huff_codes.specs.inside.Places.{place_of, IsCanonical}
use Rattle.huff_codes.proofs.lengths.code_lengths.assign_codes.Given as goal

abbrev pub invariant-loop-s : goal.invariant-loop-s
invariant-loop-s l = record {
  room : length l.places ≡ 33;
  size : length l.codes ≡ 256;
  places : (k : ℕ) → k < 33 → slice_index l.places k ≡ place_of l.lengths l.s k;
  codes : (t : ℕ) → t < l.s → HoldsAt (IsCanonical l.lengths t) l.codes t;
}
