use Rattle.std.proofs.Common.{◌≡◌, length, All}
use Rattle.huff_codes.specs.inside.Lookup.{AreEntries, IsShort}
use Rattle.huff_codes.proofs.words.lookup.entries_of.Given as goal

abbrev pub invariant-loop-k : goal.invariant-loop-k
invariant-loop-k l = record {
  room : length l.entries ≡ 2048;
  short : All IsShort l.entries;
  are : AreEntries l.codes l.entries;
}
