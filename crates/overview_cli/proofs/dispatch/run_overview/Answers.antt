use Rattle.std.proofs.Common.{ap, sym, ◌∙◌}
use Rattle.program_ends.proofs.Ends.{memory_at, ok_at, output_status, some_status, unsaid, usage_at, usage_said, volume_at}
use Rattle.opened_bundle.proofs.BundleOpening.{keeps_start}
use Rattle.overview_cli.specs.Names.{refusal_status, refusal_text, status_at, usage_text}
use Rattle.overview_cli.specs.declared.refusal.Refusal.TheVariants.{Store}
use Rattle.overview_cli.proofs.OneEnd.{told_files}
use Rattle.overview_cli.proofs.Refused.{from_refused, granted, said, tells, to_refused}
use Rattle.overview_cli.proofs.Runs.{own, to_keeps, volume_status}
use Rattle.overview_cli.proofs.Well.{puts_well, untouched, wanted}
use Rattle.overview_cli.proofs.dispatch.run_overview.Goals as goal

pub returns-clause-usage : goal.returns-clause-usage
returns-clause-usage g c = (
  λ one. c.act-ended.ensures.usage.0 (usage_at refusal_status own _ (sym c.ended_status-status.ensures.status ∙ one)),
  λ none. c.ended_status-status.ensures.status ∙ ap status_at (c.act-ended.ensures.usage.1 none),
)

pub returns-clause-spelled : goal.returns-clause-spelled
returns-clause-spelled g c = λ other. c.act-ended.ensures.spelled (λ stopped. other (c.ended_status-status.ensures.status ∙ ap status_at stopped))

pub returns-clause-unused : goal.returns-clause-unused
returns-clause-unused g c = λ one.
    let u = c.act-ended.ensures.unused (usage_at refusal_status own _ (sym c.ended_status-status.ensures.status ∙ one)) in
    (u.0, u.1, u.2, ap (λ m. m.marks) u.3 ∙ ap (λ m. m.marks) c.new-marks.ensures)

pub returns-clause-usage_told : goal.returns-clause-usage_told
returns-clause-usage_told g c = λ one. usage_said refusal_text usage_text _ _ (usage_at refusal_status own _ (sym c.ended_status-status.ensures.status ∙ one)) c.ended_status-status.ensures.line

pub returns-clause-output_failed : goal.returns-clause-output_failed
returns-clause-output_failed g c = output_status refusal_status own _ _ _ _ c.ended_status-status.ensures.status c.act-ended.ensures.output

pub returns-clause-volume_failed : goal.returns-clause-volume_failed
returns-clause-volume_failed g c =
    volume_status _ _ _ _ (λ e. c.ended_status-status.ensures.status ∙ ap status_at e) (λ five. volume_at refusal_status own _ (sym c.ended_status-status.ensures.status ∙ five)) c.act-ended.ensures.volume

pub returns-clause-ran : goal.returns-clause-ran
returns-clause-ran g c = λ command spelled. record {
  end = _;
  status_is = c.ended_status-status.ensures.status;
  command = c.act-ended.ensures.done command spelled;
  line = c.ended_status-status.ensures.line;
}

pub returns-clause-from_keeps : goal.returns-clause-from_keeps
returns-clause-from_keeps g c = λ command spelled told sound. keeps_start _ _ (c.act-ended.ensures.done command spelled).reading told sound

pub returns-clause-to_keeps : goal.returns-clause-to_keeps
returns-clause-to_keeps g c = λ command spelled start ready. to_keeps command _ _ _ _ _ start (c.act-ended.ensures.done command spelled) (λ same. ap g.W.Volume.history same) ready

pub returns-clause-no_line : goal.returns-clause-no_line
returns-clause-no_line g c = λ zero. unsaid refusal_text usage_text _ _ (ok_at refusal_status own _ (sym c.ended_status-status.ensures.status ∙ zero)) c.ended_status-status.ensures.line

pub returns-clause-no_other_status : goal.returns-clause-no_other_status
returns-clause-no_other_status g c = some_status refusal_status _ _ c.ended_status-status.ensures.status

pub returns-clause-put : goal.returns-clause-put
returns-clause-put g c = λ command spelled zero. puts_well command _ _ _ _ _ (c.act-ended.ensures.done command spelled) (ok_at refusal_status own _ (sym c.ended_status-status.ensures.status ∙ zero))

pub returns-clause-told : goal.returns-clause-told
returns-clause-told g c = λ command spelled which.
    let t = tells command _ _ _ _ _ _ _ c.ended_status-status.ensures.status c.ended_status-status.ensures.line (c.act-ended.ensures.done command spelled) which in
    (t.refusal, (t.status, (t.holds, t.line)))

pub returns-clause-refused : goal.returns-clause-refused
returns-clause-refused g c = λ command spelled told refusal holds five six.
    let is = c.ended_status-status.ensures.status in
    let r = from_refused command _ _ _ _ _ _ refusal (told_files (g.V.Volume.told c.args.from.now) (g.V.Volume.history c.args.from.now) told) (c.act-ended.ensures.done command spelled) holds (λ e. five (is ∙ ap status_at e)) (λ e. six (is ∙ ap status_at e)) in
    (is ∙ ap status_at r.end_is, r.output, r.second, said _ _ refusal r.end_is c.ended_status-status.ensures.line)

pub returns-clause-to_refused : goal.returns-clause-to_refused
returns-clause-to_refused g c = λ command spelled told told_to updates of why holds four five six.
    let is = c.ended_status-status.ensures.status in
    let e = to_refused command _ _ _ _ _ _ _ updates why (told_files (g.V.Volume.told c.args.from.now) (g.V.Volume.history c.args.from.now) told) (told_files (g.W.Volume.told c.args.to.now) (g.W.Volume.history c.args.to.now) told_to) (c.act-ended.ensures.done command spelled) of holds
    (record { output = λ e. four (is ∙ ap status_at e); volume = λ e. five (is ∙ ap status_at e); memory = λ e. six (is ∙ ap status_at e) }) in
    (is ∙ ap status_at e, said _ _ (Store why) e c.ended_status-status.ensures.line)

pub returns-clause-complete : goal.returns-clause-complete
returns-clause-complete g c = λ command spelled none four five six.
    let is = c.ended_status-status.ensures.status in
    is ∙ ap status_at (granted command _ _ _ _ _ (c.act-ended.ensures.done command spelled) none
    (record { output = λ e. four (is ∙ ap status_at e); volume = λ e. five (is ∙ ap status_at e); memory = λ e. six (is ∙ ap status_at e) }))

pub returns-clause-untouched : goal.returns-clause-untouched
returns-clause-untouched g c = λ command spelled two.
    let u = untouched command _ _ _ _ _ (c.act-ended.ensures.done command spelled) (sym c.ended_status-status.ensures.status ∙ two) in
    (u.output, u.second, u.none)

pub returns-clause-wanted : goal.returns-clause-wanted
returns-clause-wanted g c = λ command spelled six.
    let w = wanted command _ _ _ _ _ (c.act-ended.ensures.done command spelled) (λ same. ap g.W.Volume.history same) (memory_at refusal_status own _ (sym c.ended_status-status.ensures.status ∙ six)) in
    (w.output, w.none, w.keeps)
