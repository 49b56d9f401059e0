use Rattle.lerc_encode.proofs.Flagging.{alone_in_room, in_room}
use Rattle.lerc_encode.proofs.blocks.flags.place_of.Goals as goal

pub returns-then-flags-eq1-clause-within : goal.returns-then-flags-eq1-clause-within
returns-then-flags-eq1-clause-within c = alone_in_room c.args.flags.now c.args.k c.if-flags-eq1.true c.requires

pub nonzero_div-result : goal.nonzero_div-result
nonzero_div-result c = (in_room c.args.flags.now c.args.k c.requires).0

pub returns-clause-within : goal.returns-clause-within
returns-clause-within c = (in_room c.args.flags.now c.args.k c.requires).1
