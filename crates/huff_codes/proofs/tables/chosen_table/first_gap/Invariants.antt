use Rattle.std.proofs.Common.{◌≡◌, ℕ, ◌-◌, ◌<◌, slice_index}
use Rattle.huff_codes.proofs.tables.chosen_table.first_gap.Given as goal

abbrev pub invariant-loop-gap : goal.invariant-loop-gap
invariant-loop-gap l = (g : ℕ) → g < l.gap → slice_index l.lengths (255 - g) ≡ 0
