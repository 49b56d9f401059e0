use Rattle.std.proofs.Common.{◌≡◌, ◌++◌, take}
use Rattle.outside_io.specs.volume.Pieces.{pieces_of}
use Rattle.outside_io.specs.inside.Effects.{effects, written_pieces}
use Rattle.outside_io.proofs.volume.call_log.add_written.Given as goal

abbrev pub invariant-loop-call : goal.invariant-loop-call
invariant-loop-call l = pieces_of l.pieces.items ≡ pieces_of l.initial.pieces.items ++ written_pieces l.file (effects l.written (take l.call-index l.log))
