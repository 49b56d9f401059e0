use Rattle.std.proofs.Common.{◌≤◌}
use Rattle.std.specs.List.{AllWithin}
use Rattle.huff_codes.proofs.lengths.code_lengths.are_short.Given as goal

abbrev pub invariant-loop-l : goal.invariant-loop-l
invariant-loop-l l = AllWithin (λ x. x ≤ 32) l.lengths 0 l.l-index
