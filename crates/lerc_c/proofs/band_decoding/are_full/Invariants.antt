use Rattle.std.proofs.Common.{take}
use Rattle.std.specs.Prelude.{All}
use Rattle.lerc_c.specs.Arrays.{IsFull}
use Rattle.lerc_c.proofs.band_decoding.are_full.Given as goal

abbrev pub invariant-loop-i : goal.invariant-loop-i
invariant-loop-i l = All IsFull (take l.i l.fn.bands)
