use Rattle.std.proofs.Common.{sym, subst}
use Rattle.outside_io.specs.streams.Sink.{HoldsPrefix}
use Rattle.bundle_lines.specs.Lines.{put_line_of}
use Rattle.bundle_lines.proofs.Lined.{line_cut}
use Rattle.bundle_lines.proofs.puts.give_puts.Goals as goal

pub returns-in-Err-clause-err : goal.returns-in-Err-clause-err
returns-in-Err-clause-err g c =
    let mid = g.K.Sink.held c.loop-update.out in
    let new = g.K.Sink.held c.give_put.new.out in
    line_cut c.args.group.now c.loop-update.update-index c.update-item.result (g.K.Sink.held c.args.out.now) mid new c.loop-update-test.true (sym c.update-item.is) c.loop-update.invariant.lines
    (subst (λ n. HoldsPrefix mid new (put_line_of c.update-item.result.slot n)) c.len.ensures c.in-Err.ensures.err)
