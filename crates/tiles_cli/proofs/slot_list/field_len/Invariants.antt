use Rattle.std.proofs.Common.{ℕ, ◌<◌, get_or}
use Rattle.tiles_cli.specs.SlotList.{IsGap}
use Rattle.tiles_cli.proofs.slot_list.field_len.Given as goal

abbrev pub invariant-loop-at : goal.invariant-loop-at
invariant-loop-at l = record { before : (i : ℕ) → i < l.at → ¬ IsGap (get_or l.text i 0) }
