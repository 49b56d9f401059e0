-- A block that is read as numbers of steps.
use Rattle.std.specs.Prelude.{ℕ, ℤ, pos, List, map}
use Rattle.lane_kernels.specs.Kernels.{capped_sums}
use Rattle.micro_block.specs.declared.context.SteppedBlock.{SteppedBlock}

-- its values: each so many steps from the offset, or the top where that is less
abbrev pub stepped_values : SteppedBlock → List ℕ → List ℤ
stepped_values s numbers = capped_sums (map pos numbers) s.offset s.step s.top
