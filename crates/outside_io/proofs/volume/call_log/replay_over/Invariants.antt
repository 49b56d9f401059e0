use Rattle.std.proofs.Common.{◌≡◌, ℕ, ◌+◌, ◌<◌, length, get_or, take}
use Rattle.outside_io.specs.volume.Sparse.{byte_at}
use Rattle.outside_io.specs.inside.Effects.{effects, written_pieces}
use Rattle.outside_io.proofs.volume.call_log.replay_over.Given as goal

abbrev pub invariant-loop-call : goal.invariant-loop-call
invariant-loop-call l = (k : ℕ) → k < length l.buf → get_or l.buf k 0 ≡ byte_at (written_pieces l.file (effects l.written (take l.call-index l.log))) (l.at + k) (get_or l.fn.buf k 0)
