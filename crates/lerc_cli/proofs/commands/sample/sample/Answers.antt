use Rattle.std.proofs.Common.{refl, subst, ◌∙◌}
use Rattle.outside_io.specs.streams.Sink.{Holds}
use Rattle.program_ends.specs.declared.stop.Stop.TheVariants.{OutOfMemory}
use Rattle.lerc_cli.specs.declared.words.Command.TheVariants.{Sample}
use Rattle.lerc_cli.specs.answers.Samples.{sums_lines}
use Rattle.lerc_cli.proofs.AnswerLemmas.Outputs.{gave, stopped}
use Rattle.lerc_cli.proofs.commands.sample.sample.Goals as goal

pub returns-in-Err-clause-output : goal.returns-in-Err-clause-output
returns-in-Err-clause-output g c = λ some.
    stopped (Sample c.args.start c.args.count) some _ g.K.Sink.held g.K.Sink.faults _ _ OutOfMemory (tt, refl, refl) refl (λ is. absurd cc)

pub returns-in-Ok-give_all-clause-output : goal.returns-in-Ok-give_all-clause-output
returns-in-Ok-give_all-clause-output g c = λ some.
    let sums = c.in-Ok.sums in
    gave (Sample c.args.start c.args.count) some (sums_lines sums) _ (sums, (c.in-Ok.ensures.sums, refl))
    (subst (Holds (g.K.Sink.held c.args.out.now) (g.K.Sink.held c.give_all.new.sink)) (c.as_slice.ensures ∙ c.sums_text.ensures) c.in-Ok-give_all.ensures.ok) c.in-Ok-give_all.ensures.counted

pub returns-in-Ok-give_all-clause-sums : goal.returns-in-Ok-give_all-clause-sums
returns-in-Ok-give_all-clause-sums g c =
    let holds = subst (Holds (g.K.Sink.held c.args.out.now) (g.K.Sink.held c.give_all.new.sink)) (c.as_slice.ensures ∙ c.sums_text.ensures) c.in-Ok-give_all.ensures.ok in
    (c.in-Ok.sums, (c.in-Ok.ensures.sums, (c.in-Ok.ensures.near, holds)))
