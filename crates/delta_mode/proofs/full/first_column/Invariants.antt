use Rattle.std.proofs.Common.{◌≡◌, ℕ, ◌+◌, ◌-◌, ◌%◌, ◌<◌, length, get_or}
use Rattle.delta_mode.specs.inside.Bytewise.{wrapped}
use Rattle.delta_mode.specs.inside.Strided.{cell, cell_above}
use Rattle.delta_mode.proofs.full.first_column.Given as goal

abbrev pub invariant-loop-at : goal.invariant-loop-at
invariant-loop-at l = record {
  room : length l.out ≡ length l.fn.out;
  column : (l.place + l.at) % l.cols ≡ 0;
  done : (i : ℕ) → i < l.at → (l.place + i) % l.cols ≡ 0 → get_or l.out i 0 ≡ wrapped l.bias (cell l.depth l.d l.cells (l.place + i)) (cell_above l.cols (cell l.depth l.d l.cells) (l.place + i));
  others : (i : ℕ) → 0 < (l.place + i) % l.cols → get_or l.out i 0 ≡ get_or l.fn.out i 0;
}

abbrev pub decreases-loop-at : goal.decreases-loop-at
decreases-loop-at l = length l.out - l.at
