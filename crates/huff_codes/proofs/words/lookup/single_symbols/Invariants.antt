use Rattle.std.proofs.Common.{◌≡◌, length, All}
use Rattle.huff_codes.specs.inside.Lookup.{AreEntries, IsShort}
use Rattle.huff_codes.proofs.words.lookup.single_symbols.Given as goal

abbrev pub invariant-loop-s : goal.invariant-loop-s
invariant-loop-s l = record {
  room : length l.entries ≡ 2048;
  short : All IsShort l.entries;
  are : AreEntries l.codes l.entries;
}
