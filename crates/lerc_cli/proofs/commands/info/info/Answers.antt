use Rattle.std.proofs.Common.{None, refl, rules, subst, sym}
use Rattle.std.specs.List.{concat}
use Rattle.lerc_cli.specs.answers.Outline.{AreOutlines}
use Rattle.lerc_cli.proofs.InputLemmas.WholeReads.{stopped_lines}
use Rattle.lerc_cli.proofs.AnswerLemmas.Outputs.{source_read}
use Rattle.lerc_cli.proofs.AnswerLemmas.ToldLines.{cut_lines, gave_lines, wanted_lines}
use Rattle.lerc_cli.proofs.commands.info.info.Goals as goal

pub returns-in-Err-clause-output : goal.returns-in-Err-clause-output
returns-in-Err-clause-output g c = λ files. stopped_lines _ g.K.Sink.held g.K.Sink.faults _ _ _ files c.in-Err.stop refl c.in-Err.ensures.blobs

pub returns-in-Err-outlines_of-clause-source : goal.returns-in-Err-outlines_of-clause-source
returns-in-Err-outlines_of-clause-source g c =
    source_read _ _ _ _ (search rules) (λ e. absurd cc) (λ e. absurd cc) c.in-Ok.ensures.source c.in-Ok.ensures.taken c.in-Ok.ensures.end

pub returns-in-Err-outlines_of-clause-output : goal.returns-in-Err-outlines_of-clause-output
returns-in-Err-outlines_of-clause-output g c = λ files. wanted_lines _ g.K.Sink.held g.K.Sink.faults _ _ _ files c.in-Ok.blobs refl c.in-Ok.ensures.blobs

pub returns-in-Ok-give_outlines-clause-source : goal.returns-in-Ok-give_outlines-clause-source
returns-in-Ok-give_outlines-clause-source g c =
    source_read _ _ _ _ (search rules) (λ e. absurd cc) (λ e. absurd cc) c.in-Ok.ensures.source c.in-Ok.ensures.taken c.in-Ok.ensures.end

pub returns-in-Ok-give_outlines-clause-output : goal.returns-in-Ok-give_outlines-clause-output
returns-in-Ok-give_outlines-clause-output g c = λ files.
    gave_lines _ files c.in-Ok.blobs c.as_slice.result.now _ c.in-Ok.ensures.blobs (subst (AreOutlines None (concat c.in-Ok.blobs)) (sym c.as_slice.ensures.value) c.in-Ok-outlines_of.ensures)
    c.in-Ok-give_outlines.ensures.ok c.in-Ok-give_outlines.ensures.counted

pub returns-clause-source : goal.returns-clause-source
returns-clause-source g c =
    source_read _ _ _ _ (search rules) (λ e. absurd cc) (λ e. absurd cc) c.in-Ok.ensures.source c.in-Ok.ensures.taken c.in-Ok.ensures.end

pub returns-clause-output : goal.returns-clause-output
returns-clause-output g c = λ files.
    cut_lines _ files c.in-Ok.blobs c.as_slice.result.now _ c.in-Ok.ensures.blobs (subst (AreOutlines None (concat c.in-Ok.blobs)) (sym c.as_slice.ensures.value) c.in-Ok-outlines_of.ensures)
    c.in-Err-give_outlines.ensures.err c.in-Err-give_outlines.ensures.counted.0 c.in-Err-give_outlines.ensures.counted.1
