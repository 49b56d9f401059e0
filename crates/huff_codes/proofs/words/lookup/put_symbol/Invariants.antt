use Rattle.std.proofs.Common.{◌≡◌, length, List, Bool, All}
use Rattle.huff_codes.specs.Codes.{code_at}
use Rattle.huff_codes.specs.inside.Lookup.{AreEntries, IsShort}
use Rattle.huff_codes.specs.inside.Stored.{code_bits}
use Rattle.huff_codes.proofs.words.lookup.put_symbol.Given as goal

abbrev pub invariant-loop-k : goal.invariant-loop-k
invariant-loop-k l = record {
  room : length l.entries ≡ 2048;
  short : All IsShort l.entries;
  are : (codes : List (List Bool)) → code_at codes l.symbol ≡ code_bits l.fn.code
      → AreEntries codes l.fn.entries → AreEntries codes l.entries;
}
