use Rattle.lerc_cli.specs.answers.Outline.{outline_lines}
use Rattle.lerc_cli.proofs.AnswerLemmas.EachLine.{each_cut}
use Rattle.lerc_cli.proofs.telling.outline.give_outlines.Goals as goal

pub returns-in-Err-clause-err : goal.returns-in-Err-clause-err
returns-in-Err-clause-err g c =
    each_cut outline_lines c.args.outlines.now c.loop-outline.outline-index _ (g.K.Sink.held c.args.out.now) (g.K.Sink.held c.loop-outline.out) (g.K.Sink.held c.give_outline.new.out)
    c.loop-outline-test.true c.loop-outline.invariant.lines c.in-Err.ensures.err
