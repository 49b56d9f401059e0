use Rattle.std.proofs.Common.{ℕ, List, ◌++◌, length, sym, ◌∙◌, ap}
use Rattle.outside_io.specs.volume.Sparse.{SparseFile}
use Rattle.outside_io.specs.inside.Effects.{effects, written_pieces}
use Rattle.outside_io.proofs.Inside.Held.{laid_out, length-sparse}
use Rattle.outside_io.proofs.volume.image.held_after.Goals as goal

pub returns : goal.returns
returns c = λ d fit is.
    let len = c.len_of-len.ensures c.args.written.now d c.requires.pool fit (c.len.ensures ∙ sym (length-sparse c.args.start.now.len c.args.start.now.pieces) ∙ ap length (sym is)) in
    let pieces = c.in_ok-add_written.ensures ∙ ap (λ (l : List (ℕ × List ℕ)). l ++ written_pieces c.args.file (effects c.args.written.now c.args.log.now)) c.in_ok-pieces.ensures in
    laid_out c.args.file c.args.written.now c.args.log.now d c.args.start.now _ c.requires.octets fit is (ap (λ (l : SparseFile). l.len) c.crop.ensures ∙ len) (ap (λ (l : SparseFile). l.pieces) c.crop.ensures ∙ pieces)
