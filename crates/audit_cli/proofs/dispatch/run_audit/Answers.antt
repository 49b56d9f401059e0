use Rattle.std.proofs.Common.{ap, sym, ◌∙◌}
use Rattle.program_ends.proofs.Ends.{memory_at, ok_at, output_at, output_status, some_status, unsaid, usage_at, usage_said, volume_at}
use Rattle.audit_cli.specs.Names.{refusal_status, refusal_text, status_at, usage_text}
use Rattle.audit_cli.proofs.Ends.{audited_so, clean_at, cut_at, early_at, granted, own, said, seven, wanted_at}
use Rattle.audit_cli.proofs.Refusing.{refused_so, seven_of}
use Rattle.audit_cli.proofs.dispatch.run_audit.Goals as goal

pub returns-clause-usage : goal.returns-clause-usage
returns-clause-usage g c = (
  λ one. c.act-ended.ensures.usage.0 (usage_at refusal_status own _ (sym c.ended_status.ensures.status ∙ one)),
  λ none. c.ended_status.ensures.status ∙ ap status_at (c.act-ended.ensures.usage.1 none),
)

pub returns-clause-spelled : goal.returns-clause-spelled
returns-clause-spelled g c = λ other. c.act-ended.ensures.spelled (λ stopped. other (c.ended_status.ensures.status ∙ ap status_at stopped))

pub returns-clause-unused : goal.returns-clause-unused
returns-clause-unused g c = λ one. c.act-ended.ensures.unused (usage_at refusal_status own _ (sym c.ended_status.ensures.status ∙ one))

pub returns-clause-usage_told : goal.returns-clause-usage_told
returns-clause-usage_told g c = λ one. usage_said refusal_text usage_text _ _ (usage_at refusal_status own _ (sym c.ended_status.ensures.status ∙ one)) c.ended_status.ensures.line

pub returns-clause-during : goal.returns-clause-during
returns-clause-during g c = c.act-ended.ensures.reads.during

pub returns-clause-told : goal.returns-clause-told
returns-clause-told g c = c.act-ended.ensures.reads.told

pub returns-clause-output_failed : goal.returns-clause-output_failed
returns-clause-output_failed g c = output_status refusal_status own _ _ _ _ c.ended_status.ensures.status c.act-ended.ensures.output_failed

pub returns-clause-ran : goal.returns-clause-ran
returns-clause-ran g c = λ command spelled. record {
  end = _;
  status_is = c.ended_status.ensures.status;
  reads = c.act-ended.ensures.reads;
  leaves = c.act-ended.ensures.leaves command spelled;
  line = c.ended_status.ensures.line;
}

pub returns-clause-audited : goal.returns-clause-audited
returns-clause-audited g c = λ command spelled which. audited_so command _ _ _ _ _ c.ended_status.ensures.status (c.act-ended.ensures.leaves command spelled) c.ended_status.ensures.line which

pub returns-clause-clean : goal.returns-clause-clean
returns-clause-clean g c = λ command spelled tells strict zero_.
    clean_at command _ _ _ (ok_at refusal_status own _ (sym c.ended_status.ensures.status ∙ zero_)) (c.act-ended.ensures.leaves command spelled) tells strict

pub returns-clause-refusal_told : goal.returns-clause-refusal_told
returns-clause-refusal_told g c = λ command spelled is.
    let t = seven command _ _ _ _ c.ended_status.ensures.status (c.act-ended.ensures.leaves command spelled) is in
    (t.refusal, (t.holds, (t.output, said _ _ t.refusal t.is c.ended_status.ensures.line)))

pub returns-clause-refused : goal.returns-clause-refused
returns-clause-refused g c = λ command spelled tells refusal holds five.
    let status = c.ended_status.ensures.status in
    let r = refused_so command _ _ _ refusal (c.act-ended.ensures.leaves command spelled) tells holds (λ e. five (status ∙ ap status_at e)) in
    (status ∙ ap status_at r.0 ∙ seven_of _ refusal holds, r.1, said _ _ refusal r.0 c.ended_status.ensures.line)

pub returns-clause-early : goal.returns-clause-early
returns-clause-early g c = λ command spelled five.
    let e = early_at command _ _ _ (volume_at refusal_status own _ (sym c.ended_status.ensures.status ∙ five)) (c.act-ended.ensures.leaves command spelled) in
    (e.failed, e.output, e.early)

pub returns-clause-cut : goal.returns-clause-cut
returns-clause-cut g c = λ command spelled four. cut_at command _ _ _ (output_at refusal_status own _ (sym c.ended_status.ensures.status ∙ four)) (c.act-ended.ensures.leaves command spelled)

pub returns-clause-wanted : goal.returns-clause-wanted
returns-clause-wanted g c = λ command spelled six. wanted_at command _ _ _ (memory_at refusal_status own _ (sym c.ended_status.ensures.status ∙ six)) (c.act-ended.ensures.leaves command spelled)

pub returns-clause-complete : goal.returns-clause-complete
returns-clause-complete g c = λ command spelled none four five six. granted command _ _ _ _ c.ended_status.ensures.status (c.act-ended.ensures.leaves command spelled) none four five six

pub returns-clause-no_line : goal.returns-clause-no_line
returns-clause-no_line g c = λ first. unsaid refusal_text usage_text _ _ (ok_at refusal_status own _ (sym c.ended_status.ensures.status ∙ first)) c.ended_status.ensures.line

pub returns-clause-no_other_status : goal.returns-clause-no_other_status
returns-clause-no_other_status g c = some_status refusal_status _ _ c.ended_status.ensures.status
