use Rattle.std.proofs.Common.{◌≡◌, take}
use Rattle.lut_stuff.specs.Tables.{occurs}
use Rattle.lut_stuff.proofs.hashing.has_value.Given as goal

abbrev pub invariant-loop-number : goal.invariant-loop-number
invariant-loop-number l = l.found ≡ occurs (take l.number-index l.numbers) l.value
