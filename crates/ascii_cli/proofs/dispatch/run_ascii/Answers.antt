use Rattle.std.proofs.Common.{ap, ◌∙◌}
use Rattle.ascii_cli.specs.Names.{status_at}
use Rattle.ascii_cli.specs.declared.words.Command.TheVariants.{Split, Join}
use Rattle.ascii_cli.proofs.Ended.{output_status, source_status, usage_said, usage_status}
use Rattle.ascii_cli.proofs.Outputs.{lga_exactly, lga_gave, refused, split_joins, text_exactly, text_gave}
use Rattle.ascii_cli.proofs.dispatch.run_ascii.Goals as goal

pub returns-clause-usage : goal.returns-clause-usage
returns-clause-usage g c = (
  λ one. c.act-ended.ensures.usage.0 (usage_status _ _ c.ended_status.ensures.status one),
  λ none. c.ended_status.ensures.status ∙ ap status_at (c.act-ended.ensures.usage.1 none),
)

pub returns-clause-spelled : goal.returns-clause-spelled
returns-clause-spelled g c = λ other. c.act-ended.ensures.spelled (λ stopped. other (c.ended_status.ensures.status ∙ ap status_at stopped))

pub returns-clause-unused : goal.returns-clause-unused
returns-clause-unused g c = λ one. c.act-ended.ensures.unused (usage_status _ _ c.ended_status.ensures.status one)

pub returns-clause-usage_told : goal.returns-clause-usage_told
returns-clause-usage_told g c = λ one. usage_said _ _ (usage_status _ _ c.ended_status.ensures.status one) c.ended_status.ensures.line

pub returns-clause-source_failed : goal.returns-clause-source_failed
returns-clause-source_failed g c = source_status _ _ _ _ c.ended_status.ensures.status c.act-ended.ensures.source.cause

pub returns-clause-output_failed : goal.returns-clause-output_failed
returns-clause-output_failed g c = output_status _ _ _ _ c.ended_status.ensures.status c.act-ended.ensures.output_cause

pub returns-clause-ran : goal.returns-clause-ran
returns-clause-ran g c = λ command spelled. record {
  end = _;
  status_is = c.ended_status.ensures.status;
  source = c.act-ended.ensures.source;
  output = c.act-ended.ensures.output command spelled;
  line = c.ended_status.ensures.line;
}

pub returns-clause-split : goal.returns-clause-split
returns-clause-split g c = λ kind spelled text told which.
    text_exactly kind text _ _ _ c.ended_status.ensures.status (rw told at (c.act-ended.ensures.output (Split kind) spelled)) which

pub returns-clause-split_gave : goal.returns-clause-split_gave
returns-clause-split_gave g c = λ kind spelled text told zero grid stands.
    text_gave kind text grid _ _ _ c.ended_status.ensures.status zero (rw told at (c.act-ended.ensures.output (Split kind) spelled)) stands

pub returns-clause-split_refused : goal.returns-clause-split_refused
returns-clause-split_refused g c = λ kind spelled text told two.
    refused (Split kind) text _ _ _ _ c.ended_status.ensures.status two (rw told at (c.act-ended.ensures.output (Split kind) spelled)) c.ended_status.ensures.line

pub returns-clause-join : goal.returns-clause-join
returns-clause-join g c = λ spelled bytes told which.
    lga_exactly bytes _ _ _ c.ended_status.ensures.status (rw told at (c.act-ended.ensures.output Join spelled)) which

pub returns-clause-join_gave : goal.returns-clause-join_gave
returns-clause-join_gave g c = λ spelled bytes told zero grid stands.
    lga_gave bytes grid _ _ _ c.ended_status.ensures.status zero (rw told at (c.act-ended.ensures.output Join spelled)) stands

pub returns-clause-join_refused : goal.returns-clause-join_refused
returns-clause-join_refused g c = λ spelled bytes told two.
    refused Join bytes _ _ _ _ c.ended_status.ensures.status two (rw told at (c.act-ended.ensures.output Join spelled)) c.ended_status.ensures.line

pub returns-clause-split_joins : goal.returns-clause-split_joins
returns-clause-split_joins g c = λ kind spelled text told zero.
    split_joins kind text _ _ _ c.ended_status.ensures.status zero (rw told at (c.act-ended.ensures.output (Split kind) spelled))
