use Rattle.std.proofs.Common.{rules}
use Rattle.outside_io.proofs.Inside.Pieces.{laid_buf}
use Rattle.outside_io.proofs.volume.start.lay_over.Goals as goal

pub returns-then-low-high : goal.returns-then-low-high
returns-then-low-high c = λ k within.
    laid_buf c.args.buf.now c.args.bytes.now c.copy_from_slice.new.self c.args.at c.args.place c.max-low.result c.min-high.result k (search rules) (search rules) c.if-low-high.true c.copy_from_slice.ensures.after within
