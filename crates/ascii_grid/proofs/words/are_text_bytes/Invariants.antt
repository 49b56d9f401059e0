use Rattle.std.proofs.Common.{take, All}
use Rattle.ascii_grid.specs.Head.{IsTextByte}
use Rattle.ascii_grid.proofs.words.are_text_bytes.Given as goal

abbrev pub invariant-loop-byte : goal.invariant-loop-byte
invariant-loop-byte l = All IsTextByte (take l.byte-index l.bytes)
