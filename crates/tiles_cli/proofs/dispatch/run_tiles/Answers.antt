use Rattle.std.proofs.Common.{inl, inr, sym, subst, ap, ◌∙◌}
use Rattle.bundle_store.specs.Starts.{KeepsStart}
use Rattle.opened_bundle.proofs.BundleOpening.{keeps_start}
use Rattle.program_ends.proofs.Ends.{ok_at, output_status, some_status, source_status, unsaid, usage_at, usage_said, volume_status}
use Rattle.tiles_cli.specs.Names.{refusal_status, refusal_text, status_at, usage_text}
use Rattle.tiles_cli.specs.declared.words.Command.TheVariants.{Export, Listed, Import}
use Rattle.opened_bundle.proofs.Standing.{idle_keeps}
use Rattle.tiles_cli.proofs.Runs.{export_well, import_keeps, import_refused, import_well, own}
use Rattle.tiles_cli.proofs.dispatch.run_tiles.Goals as goal

pub returns-clause-usage : goal.returns-clause-usage
returns-clause-usage g c = (
  λ one. c.act-ended.ensures.usage.0 (usage_at refusal_status own _ (sym c.ended_status.ensures.status ∙ one)),
  λ none. c.ended_status.ensures.status ∙ ap status_at (c.act-ended.ensures.usage.1 none),
)

pub returns-clause-spelled : goal.returns-clause-spelled
returns-clause-spelled g c = λ other. c.act-ended.ensures.spelled (λ stopped. other (c.ended_status.ensures.status ∙ ap status_at stopped))

pub returns-clause-unused : goal.returns-clause-unused
returns-clause-unused g c = λ one. c.act-ended.ensures.unused (usage_at refusal_status own _ (sym c.ended_status.ensures.status ∙ one))

pub returns-clause-usage_told : goal.returns-clause-usage_told
returns-clause-usage_told g c = λ one. usage_said refusal_text usage_text _ _ (usage_at refusal_status own _ (sym c.ended_status.ensures.status ∙ one)) c.ended_status.ensures.line

pub returns-clause-source_failed : goal.returns-clause-source_failed
returns-clause-source_failed g c = source_status refusal_status own _ _ _ _ c.ended_status.ensures.status c.act-ended.ensures.source

pub returns-clause-output_failed : goal.returns-clause-output_failed
returns-clause-output_failed g c = output_status refusal_status own _ _ _ _ c.ended_status.ensures.status c.act-ended.ensures.output

pub returns-clause-volume_failed : goal.returns-clause-volume_failed
returns-clause-volume_failed g c = volume_status refusal_status own _ _ _ _ c.ended_status.ensures.status c.act-ended.ensures.volume

pub returns-clause-ran : goal.returns-clause-ran
returns-clause-ran g c = λ command spelled. record {
  end = _;
  status_is = c.ended_status.ensures.status;
  command = c.act-ended.ensures.done command spelled;
  line = c.ended_status.ensures.line;
}

pub returns-clause-exported : goal.returns-clause-exported
returns-clause-exported g c = λ spelled zero told start stands.
    export_well start _ _ _ told stands (c.act-ended.ensures.done Export spelled).1 (ok_at refusal_status own _ (sym c.ended_status.ensures.status ∙ zero))

pub returns-clause-imported : goal.returns-clause-imported
returns-clause-imported g c = λ spelled zero bytes held told start stands.
    import_well bytes start _ _ _ _ held (c.act-ended.ensures.done Import spelled) told stands (ok_at refusal_status own _ (sym c.ended_status.ensures.status ∙ zero))

pub returns-clause-keeps : goal.returns-clause-keeps
returns-clause-keeps g c = λ spelled bytes held start ready. import_keeps bytes start _ _ _ _ held (c.act-ended.ensures.done Import spelled) ready (λ same. ap g.K.Sink.held same)

pub returns-clause-no_line : goal.returns-clause-no_line
returns-clause-no_line g c = λ zero. unsaid refusal_text usage_text _ _ (ok_at refusal_status own _ (sym c.ended_status.ensures.status ∙ zero)) c.ended_status.ensures.line

pub returns-clause-no_other_status : goal.returns-clause-no_other_status
returns-clause-no_other_status g c = some_status refusal_status _ _ c.ended_status.ensures.status

pub returns-clause-refused : goal.returns-clause-refused
returns-clause-refused g c = λ spelled two bytes told. import_refused bytes _ _ _ _ _ _ two c.ended_status.ensures.status told (c.act-ended.ensures.done Import spelled) c.ended_status.ensures.line

pub returns-clause-keeps_start : goal.returns-clause-keeps_start
returns-clause-keeps_start g c = λ either told sound. elim either [
  | inl spelled ↦ keeps_start _ _ (c.act-ended.ensures.done Export spelled).1.reading told sound
  | inr spelled ↦ elim (c.act-ended.ensures.done Listed spelled) [
    | inl un ↦ subst (λ v. KeepsStart (g.V.Volume.history c.args.vol.now) (g.V.Volume.history v)) (sym un.unread) (idle_keeps _ sound)
    | inr so ↦ keeps_start _ _ so.reading told sound
  ]
]
