use Rattle.std.proofs.Common.{take}
use Rattle.tiles_cli.specs.SlotList.{IsOneLine}
use Rattle.tiles_cli.proofs.slot_list.line_len.Given as goal

abbrev pub invariant-loop-at : goal.invariant-loop-at
invariant-loop-at l = record { before : IsOneLine (take l.at l.text) }
