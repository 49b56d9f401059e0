use Rattle.std.proofs.Common.{ap, refl, sym, ◌∙◌, rules}
use Rattle.lerc_cli.specs.answers.Names.{status_at}
use Rattle.lerc_cli.specs.declared.words.Command.TheVariants.{Encode, Decode, Info, Build}
use Rattle.lerc_cli.proofs.AnswerLemmas.Built.{built}
use Rattle.lerc_cli.proofs.AnswerLemmas.Encoding.{encoded_exactly}
use Rattle.lerc_cli.proofs.AnswerLemmas.Statuses.{ok_at, output_status, some_status, source_status, unsaid, usage_said, usage_status, volume_status}
use Rattle.lerc_cli.proofs.AnswerLemmas.Exact.{complete, cut_short, decoded, exact, refused, refused_so, wanted}
use Rattle.lerc_cli.proofs.AnswerLemmas.Informed.{informed, informed_exactly}
use Rattle.lerc_cli.proofs.AnswerLemmas.Outputs.{nothing_given, on_ok}
use Rattle.lerc_cli.proofs.CrashLemmas.Resting.{shut_at}
use Rattle.lerc_cli.proofs.dispatch.run.Goals as goal

pub returns-clause-usage : goal.returns-clause-usage
returns-clause-usage g c = (
  λ one. c.act-ended.ensures.usage.0 (usage_status _ _ c.ended_status-status.ensures.status one),
  λ none. c.ended_status-status.ensures.status ∙ ap status_at (c.act-ended.ensures.usage.1 none),
)

pub returns-clause-spelled : goal.returns-clause-spelled
returns-clause-spelled g c = λ other. c.act-ended.ensures.spelled (λ stopped. other (c.ended_status-status.ensures.status ∙ ap status_at stopped))

pub returns-clause-unused : goal.returns-clause-unused
returns-clause-unused g c = λ one.
    let u = c.act-ended.ensures.unused (usage_status _ _ c.ended_status-status.ensures.status one) in
    (u.0, u.1, u.2, ap (λ m. m.marks) u.3 ∙ ap (λ m. m.marks) c.new-marks.ensures)

pub returns-clause-source_failed : goal.returns-clause-source_failed
returns-clause-source_failed g c = source_status _ _ _ _ c.ended_status-status.ensures.status c.act-ended.ensures.source_cause

pub returns-clause-output_failed : goal.returns-clause-output_failed
returns-clause-output_failed g c = output_status _ _ _ _ c.ended_status-status.ensures.status c.act-ended.ensures.output_cause

pub returns-clause-volume_failed : goal.returns-clause-volume_failed
returns-clause-volume_failed g c = volume_status _ _ _ _ c.ended_status-status.ensures.status c.act-ended.ensures.volume_cause

pub returns-clause-ran : goal.returns-clause-ran
returns-clause-ran g c = λ command spelled. record {
  end = _;
  status_is = c.ended_status-status.ensures.status;
  source = c.act-ended.ensures.source command spelled;
  output = c.act-ended.ensures.output command spelled;
  volume = c.act-ended.ensures.volume command spelled;
  line = c.ended_status-status.ensures.line;
}

pub returns-clause-complete : goal.returns-clause-complete
returns-clause-complete g c = λ command spelled told n output has.
    complete command _ n _ _ _ output _ told c.ended_status-status.ensures.status has (c.act-ended.ensures.output command spelled)

pub returns-clause-refused_exactly : goal.returns-clause-refused_exactly
returns-clause-refused_exactly g c = λ command spelled told n refusal output has s o v w.
    refused_so command _ n _ _ _ refusal output _ _ told c.ended_status-status.ensures.status has (c.act-ended.ensures.output command spelled) c.ended_status-status.ensures.line s o v w

pub returns-clause-kept : goal.returns-clause-kept
returns-clause-kept g c = λ command spelled. (_, (c.ended_status-status.ensures.status, (c.act-ended.ensures.volume command spelled).tiles))

pub returns-clause-shut : goal.returns-clause-shut
returns-clause-shut g c = λ command spelled calls told which.
    shut_at command _ _ _ _ _ c.ended_status-status.ensures.status calls told which (c.act-ended.ensures.volume command spelled)

pub returns-clause-no_other_status : goal.returns-clause-no_other_status
returns-clause-no_other_status g c = some_status _ _ c.ended_status-status.ensures.status

pub returns-clause-usage_line : goal.returns-clause-usage_line
returns-clause-usage_line g c = λ one. usage_said _ _ (usage_status _ _ c.ended_status-status.ensures.status one) c.ended_status-status.ensures.line

pub returns-clause-no_line : goal.returns-clause-no_line
returns-clause-no_line g c = λ zero. unsaid _ _ (ok_at _ (sym c.ended_status-status.ensures.status ∙ zero)) c.ended_status-status.ensures.line

pub returns-clause-encoded : goal.returns-clause-encoded
returns-clause-encoded g c = λ version error spelled zero. (
  on_ok _ (ok_at _ (sym c.ended_status-status.ensures.status ∙ zero)) (c.act-ended.ensures.blobs version error spelled),
  (c.act-ended.ensures.source (Encode version error) spelled).whole (search rules) (ok_at _ (sym c.ended_status-status.ensures.status ∙ zero)),
)

pub returns-clause-encoded_exactly : goal.returns-clause-encoded_exactly
returns-clause-encoded_exactly g c = λ version error spelled input told which.
    encoded_exactly version error _ input _ _ _ _ _ told c.ended_status-status.ensures.status which (c.act-ended.ensures.output (Encode version error) spelled)

pub returns-clause-not_encoded : goal.returns-clause-not_encoded
returns-clause-not_encoded g c = λ version error spelled zero four.
    nothing_given (Encode version error) _ _ _ _ _ refl c.ended_status-status.ensures.status zero four (c.act-ended.ensures.output (Encode version error) spelled)

pub returns-clause-built : goal.returns-clause-built
returns-clause-built g c = λ version error workers spelled zero input told updates of.
    built version error workers _ input _ updates _ _ _ _ _ told c.ended_status-status.ensures.status zero of (c.act-ended.ensures.output (Build version error workers) spelled) (c.act-ended.ensures.volume (Build version error workers) spelled)

pub returns-clause-exact : goal.returns-clause-exact
returns-clause-exact g c = λ spelled input told which. exact _ input _ _ _ _ _ told c.ended_status-status.ensures.status which (c.act-ended.ensures.output Decode spelled)

pub returns-clause-decoded : goal.returns-clause-decoded
returns-clause-decoded g c = λ spelled zero. (
  decoded _ _ _ _ _ _ c.ended_status-status.ensures.status zero (c.act-ended.ensures.output Decode spelled),
  (c.act-ended.ensures.source Decode spelled).whole (search rules) (ok_at _ (sym c.ended_status-status.ensures.status ∙ zero)),
)

pub returns-clause-refused : goal.returns-clause-refused
returns-clause-refused g c = λ spelled two. refused _ _ _ _ _ _ _ c.ended_status-status.ensures.status two (c.act-ended.ensures.output Decode spelled) c.ended_status-status.ensures.line

pub returns-clause-cut_short : goal.returns-clause-cut_short
returns-clause-cut_short g c = λ spelled four. cut_short _ _ _ _ _ _ c.ended_status-status.ensures.status four (c.act-ended.ensures.output Decode spelled)

pub returns-clause-wanted : goal.returns-clause-wanted
returns-clause-wanted g c = λ spelled six. wanted _ _ _ _ _ _ c.ended_status-status.ensures.status six (c.act-ended.ensures.output Decode spelled)

pub returns-clause-nothing_given : goal.returns-clause-nothing_given
returns-clause-nothing_given g c = λ spelled zero four. nothing_given Decode _ _ _ _ _ refl c.ended_status-status.ensures.status zero four (c.act-ended.ensures.output Decode spelled)

pub returns-clause-informed_exactly : goal.returns-clause-informed_exactly
returns-clause-informed_exactly g c = λ spelled input told which. informed_exactly _ input _ _ _ _ _ told c.ended_status-status.ensures.status which (c.act-ended.ensures.output Info spelled)

pub returns-clause-informed : goal.returns-clause-informed
returns-clause-informed g c = λ spelled zero. (
  informed _ _ _ _ _ _ c.ended_status-status.ensures.status zero (c.act-ended.ensures.output Info spelled),
  (c.act-ended.ensures.source Info spelled).whole (search rules) (ok_at _ (sym c.ended_status-status.ensures.status ∙ zero)),
)

pub returns-clause-not_informed : goal.returns-clause-not_informed
returns-clause-not_informed g c = λ spelled zero four. nothing_given Info _ _ _ _ _ refl c.ended_status-status.ensures.status zero four (c.act-ended.ensures.output Info spelled)

pub returns-clause-sampled : goal.returns-clause-sampled
returns-clause-sampled g c = λ start count spelled zero.
    on_ok _ (ok_at _ (sym c.ended_status-status.ensures.status ∙ zero)) (c.act-ended.ensures.sums start count spelled)
