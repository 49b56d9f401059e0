use Rattle.std.proofs.Common.{◌≡◌, ℕ, ◌*◌, ◌^◌, ◌<◌, ◌≤◌, slice_index, length}
use Rattle.huff_codes.specs.inside.Places.{place_of}
use Rattle.huff_codes.proofs.lengths.code_lengths.first_places.Given as goal

abbrev pub invariant-loop-l : goal.invariant-loop-l
invariant-loop-l l = record {
  room : length l.places ≡ 33;
  small : l.place ≤ l.l * 2 ^ 40;
  place : l.place ≡ place_of l.lengths 0 l.l;
  places : (k : ℕ) → k < l.l → slice_index l.places k ≡ place_of l.lengths 0 k;
}
