use Rattle.std.proofs.Common.{◌≡◌, take}
use Rattle.outside_io.specs.volume.Pieces.{pieces_of}
use Rattle.outside_io.proofs.volume.start.copy_of.Given as goal

abbrev pub invariant-loop-piece : goal.invariant-loop-piece
invariant-loop-piece l = pieces_of l.copy.items ≡ pieces_of (take l.piece-index l.pieces)
