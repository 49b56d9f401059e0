use Rattle.std.proofs.Common.{ℕ, List, ◌+◌, ◌-◌, ◌*◌, ◌/◌, ◌≡◌, ◌≤◌, ◌++◌, length, take}
use Rattle.huff_codes.specs.inside.Reading.{HaveReached}
use Rattle.huff_codes.proofs.words.reader.SymbolReader.read.Given as goal

abbrev pub invariant-loop-place : goal.invariant-loop-place
invariant-loop-place l = record {
  room : length l.out ≡ length l.fn.out;
  within : l.place.count ≤ length l.out;
  few : l.place.bit ≤ l.self.bit + 32 * l.place.count;
  bits : l.place.bit ≤ 32 * (length l.self.bytes.now / 4);
  reached : (before : List ℕ) → HaveReached l.self.codes.now l.self.bytes.now before l.self.bit → HaveReached l.self.codes.now l.self.bytes.now (before ++ take l.place.count l.out) l.place.bit;
}

abbrev pub decreases-loop-place : goal.decreases-loop-place
decreases-loop-place l = length l.out - l.place.count
