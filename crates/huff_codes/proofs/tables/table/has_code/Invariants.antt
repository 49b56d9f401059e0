use Rattle.std.proofs.Common.{◌≡◌}
use Rattle.std.specs.List.{AllWithin}
use Rattle.huff_codes.proofs.tables.table.has_code.Given as goal

abbrev pub invariant-loop-length : goal.invariant-loop-length
invariant-loop-length l = AllWithin (λ x. x ≡ 0) l.lengths 0 l.length-index
