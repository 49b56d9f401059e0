use Rattle.std.proofs.Common.{◌≡◌, refl, sym, ◌∙◌}
use Rattle.lerc_cli.specs.declared.words.Command.TheVariants.{Encode, Sample}
use Rattle.lerc_cli.proofs.AnswerLemmas.Statuses.{never_usage}
use Rattle.lerc_cli.proofs.WordLemmas.Spelled.{lawful}
use Rattle.lerc_cli.proofs.dispatch.act.Goals as goal

pub returns-in-Some-clause-usage : goal.returns-in-Some-clause-usage
returns-in-Some-clause-usage g c = (
  λ stopped. absurd (never_usage _ _ _ _ _ c.perform.ensures.output stopped),
  λ none. absurd (none c.in-Some.command ((c.in-Some.ensures c.in-Some.command).0 refl)),
)

pub returns-in-Some-clause-blobs : goal.returns-in-Some-clause-blobs
returns-in-Some-clause-blobs g c = λ version error spelled.
    let same = sym c.in-Some.is ∙ (c.command_of.ensures (Encode version error)).1 spelled in
    let is : c.in-Some.command ≡ Encode version error = cc in
    c.perform.ensures.blobs version error is

pub returns-in-Some-clause-sums : goal.returns-in-Some-clause-sums
returns-in-Some-clause-sums g c = λ start count spelled.
    let same = sym c.in-Some.is ∙ (c.command_of.ensures (Sample start count)).1 spelled in
    let is : c.in-Some.command ≡ Sample start count = cc in
    c.perform.ensures.sums start count is

pub perform-requires-clause-lawful : goal.perform-requires-clause-lawful
perform-requires-clause-lawful g c κs within = lawful c.in-Some.command c.args.words.now ((c.command_of.ensures c.in-Some.command).0 c.in-Some.is)
