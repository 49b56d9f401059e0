use Rattle.std.proofs.Common.{◌≡◌, ◌+◌, ◌-◌, ◌*◌, ◌/◌, ◌≤◌, drop, length}
use Rattle.lerc_header.specs.Checksum.{words, after_groups, groups_of}
use Rattle.lerc_header.proofs.fletcher.add_groups.Given as goal

abbrev pub invariant-loop-g : goal.invariant-loop-g
invariant-loop-g l = record {
  told : after_groups ((length l.bytes / 2 + 358) / 359 - l.g) (record { first = l.sum1; second = l.sum2 }) (drop (359 * l.g) (words l.bytes)) ≡ groups_of l.bytes;
  small : (l.sum1 ≤ 131070) × (l.sum2 ≤ 131070);
}
