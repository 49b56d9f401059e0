use Rattle.std.proofs.Common.{arith}
use Rattle.bit_stuff.proofs.LaneNumbers.{places_are_lawful, lanes_are_numbers}
use Rattle.bit_stuff.proofs.unpacking.four_numbers.Goals as goal

pub swizzle-parts : goal.swizzle-parts
swizzle-parts c =
    places_are_lawful c.args.phase c.args.width c.places_of_lanes-places.result c.requires.phase c.requires.width
    (record { long = omega arith; stand = c.places_of_lanes-places.ensures })

pub returns-clause-numbers : goal.returns-clause-numbers
returns-clause-numbers c =
    lanes_are_numbers c.args.bytes.now c.places_of_lanes-places.result c.powers_of_lanes-powers.result c.args.down c.args.at c.args.phase c.args.width
    c.requires.whole c.requires.phase c.requires.width
    (λ i. omega (arith, c.type_inv.bytes i))
    (record { long = omega arith; stand = c.places_of_lanes-places.ensures })
    (omega arith)
    c.powers_of_lanes-powers.ensures c.requires.down
