use Rattle.std.proofs.Common.{◌≡◌, ℕ, ◌+◌, ◌<◌, length, get_or, take}
use Rattle.outside_io.specs.volume.Pieces.{pieces_of}
use Rattle.outside_io.specs.volume.Sparse.{byte_at}
use Rattle.outside_io.proofs.volume.start.pieces_over.Given as goal

abbrev pub invariant-loop-piece : goal.invariant-loop-piece
invariant-loop-piece l = (k : ℕ) → k < length l.buf → get_or l.buf k 0 ≡ byte_at (pieces_of (take l.piece-index l.pieces)) (l.at + k) (get_or l.fn.buf k 0)
