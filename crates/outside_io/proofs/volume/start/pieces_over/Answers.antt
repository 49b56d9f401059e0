use Rattle.std.proofs.Common.{◌≡◌, ◌+◌, get_or, sym, ◌∙◌, ap, arith}
use Rattle.outside_io.specs.volume.Sparse.{byte_over}
use Rattle.outside_io.proofs.Inside.Replay.{piece_more}
use Rattle.outside_io.proofs.volume.start.pieces_over.Goals as goal

pub loop-piece-preserved : goal.loop-piece-preserved
loop-piece-preserved c = λ k lt.
    let item = c.piece-item.result in
    c.lay_over.ensures k (omega arith)
    ∙ (let same : byte_over item.at c.as_slice.result.now (c.args.at + k) (get_or c.loop-piece.buf k 0) ≡ byte_over item.at item.bytes (c.args.at + k) (get_or c.loop-piece.buf k 0) = rw c.as_slice.ensures in same)
    ∙ ap (byte_over item.at item.bytes (c.args.at + k)) (c.loop-piece.invariant k (omega arith))
    ∙ sym (piece_more c.args.pieces.now c.loop-piece.piece-index item (c.args.at + k) (get_or c.args.buf.now k 0) c.loop-piece-test.true c.piece-item.is)
