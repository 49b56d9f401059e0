use Rattle.std.proofs.Common.{◌*◌, take}
use Rattle.lerc_header.specs.Checksum.{words}
use Rattle.lerc_header.proofs.LaneSums.{HaveTaken}
use Rattle.lerc_header.proofs.lanes.sums_of_eights.Given as goal

abbrev pub invariant-loop-i : goal.invariant-loop-i
invariant-loop-i l = HaveTaken l.sums l.earlier (take (8 * l.i) (words l.bytes))
