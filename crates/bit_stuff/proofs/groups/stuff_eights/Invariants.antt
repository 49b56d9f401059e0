use Rattle.std.proofs.Common.{◌≡◌, ◌*◌, take}
use Rattle.bit_stuff.specs.Stuffed.{number_of_bytes, number_of_values}
use Rattle.bit_stuff.proofs.groups.stuff_eights.Given as goal

abbrev pub invariant-loop-k : goal.invariant-loop-k
invariant-loop-k l = number_of_bytes (take (l.width * l.k) l.out) ≡ number_of_values l.width (take (8 * l.k) l.values)
