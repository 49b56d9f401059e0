use Rattle.tiles_cli.proofs.Listing.{piece_joined}
use Rattle.tiles_cli.proofs.slot_list.take_text.Goals as goal

pub returns-in-Ok-false-clause-took : goal.returns-in-Ok-false-clause-took
returns-in-Ok-false-clause-took g c = piece_joined _ _ _ _ _ c.in-Ok-false.field-0 c.loop-piece.invariant.took c.in-Ok-false.ensures.took
