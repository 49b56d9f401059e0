use Rattle.std.proofs.Common.{ap, sym, ◌∙◌}
use Rattle.level_cli.specs.Names.{status_at}
use Rattle.level_cli.specs.declared.words.Command.TheVariants.{Put, Get, Name}
use Rattle.level_cli.proofs.Ended.{ok_at, output_status, refused_said, shelf_status, source_status, usage_said, usage_status, volume_status}
use Rattle.level_cli.proofs.Ends.{get_well, name_well, put_well}
use Rattle.level_cli.proofs.Granted.{granted}
use Rattle.level_cli.proofs.Refused.{refused_so}
use Rattle.level_cli.proofs.dispatch.run_level.Goals as goal

pub returns-clause-usage : goal.returns-clause-usage
returns-clause-usage g c = (
  λ one. c.act-ended.ensures.usage.0 (usage_status _ _ c.ended_status.ensures.status one),
  λ none. c.ended_status.ensures.status ∙ ap status_at (c.act-ended.ensures.usage.1 none),
)

pub returns-clause-spelled : goal.returns-clause-spelled
returns-clause-spelled g c = λ other. c.act-ended.ensures.spelled (λ stopped. other (c.ended_status.ensures.status ∙ ap status_at stopped))

pub returns-clause-unused : goal.returns-clause-unused
returns-clause-unused g c = λ one. c.act-ended.ensures.unused (usage_status _ _ c.ended_status.ensures.status one)

pub returns-clause-usage_told : goal.returns-clause-usage_told
returns-clause-usage_told g c = λ one. usage_said _ _ (usage_status _ _ c.ended_status.ensures.status one) c.ended_status.ensures.line

pub returns-clause-source_failed : goal.returns-clause-source_failed
returns-clause-source_failed g c = source_status _ _ _ _ c.ended_status.ensures.status c.act-ended.ensures.source

pub returns-clause-output_failed : goal.returns-clause-output_failed
returns-clause-output_failed g c = output_status _ _ _ _ c.ended_status.ensures.status c.act-ended.ensures.output

pub returns-clause-shelf_failed : goal.returns-clause-shelf_failed
returns-clause-shelf_failed g c = shelf_status _ _ _ _ c.ended_status.ensures.status c.act-ended.ensures.shelf.shelf

pub returns-clause-volume_failed : goal.returns-clause-volume_failed
returns-clause-volume_failed g c = volume_status _ _ _ _ c.ended_status.ensures.status c.act-ended.ensures.shelf.volume

pub returns-clause-ran : goal.returns-clause-ran
returns-clause-ran g c = λ command spelled. record {
  end = _;
  status_is = c.ended_status.ensures.status;
  did = c.act-ended.ensures.done command spelled;
  line = c.ended_status.ensures.line;
}

pub returns-clause-puts : goal.returns-clause-puts
returns-clause-puts g c = λ version error place spelled zero.
    put_well _ _ _ version error place _ _ _ _ (ok_at _ (sym c.ended_status.ensures.status ∙ zero)) (c.act-ended.ensures.done (Put version error place) spelled)

pub returns-clause-gets : goal.returns-clause-gets
returns-clause-gets g c = λ place spelled zero.
    get_well _ _ _ place _ _ _ (ok_at _ (sym c.ended_status.ensures.status ∙ zero)) (c.act-ended.ensures.done (Get place) spelled).1

pub returns-clause-names : goal.returns-clause-names
returns-clause-names g c = λ place spelled.
    let did = c.act-ended.ensures.done (Name place) spelled in
    (did.0.0, did.0.1, λ zero. name_well place _ _ (ok_at _ (sym c.ended_status.ensures.status ∙ zero)) did.1)

pub returns-clause-complete : goal.returns-clause-complete
returns-clause-complete g c = λ command spelled told tells grants n3 n4 n5 n6 n8.
    let is = c.ended_status.ensures.status in
    is ∙ granted _ _ _ _ told tells command _ _ _ (c.act-ended.ensures.done command spelled) grants
    (λ e. c.act-ended.ensures.usage.0 (usage_status _ _ is (is ∙ e)) command spelled)
    (λ e. n3 (is ∙ e)) (λ e. n4 (is ∙ e)) (λ e. n5 (is ∙ e)) (λ e. n6 (is ∙ e)) (λ e. n8 (is ∙ e))

pub returns-clause-refused_exactly : goal.returns-clause-refused_exactly
returns-clause-refused_exactly g c = λ command spelled told tells refusal first n3 n5 n6 n8.
    let is = c.ended_status.ensures.status in
    let so = refused_so _ _ _ _ told tells command _ _ _ refusal (c.act-ended.ensures.done command spelled) first
    ((λ e. n3 (is ∙ e)), ((λ e. n5 (is ∙ e)), ((λ e. n6 (is ∙ e)), (λ e. n8 (is ∙ e))))) in
    (is ∙ ap status_at so.0, so.1, refused_said _ refusal _ so.0 c.ended_status.ensures.line)
