use Rattle.std.proofs.Common.{subst, ◌∙◌}
use Rattle.std.proofs.lemmas.Result.{on_err_weaker}
use Rattle.outside_io.specs.streams.Sink.{Holds, HoldsPrefix}
use Rattle.outside_io.proofs.StreamLemmas.Gives.{HoldsPrefix_front, HoldsPrefix_join}
use Rattle.raster_cells.proofs.Pack.{on_err}
use Rattle.lerc_cli.specs.answers.Outline.{shape_lines, value_lines}
use Rattle.lerc_cli.proofs.telling.outline.give_outline.Goals as goal

pub returns-in_err-give_all-2-clause-err : goal.returns-in_err-give_all-2-clause-err
returns-in_err-give_all-2-clause-err g c =
    let h = c.args.outline.header in
    on_err c.from_residual-in_err-give_all-2.result (HoldsPrefix_join _ _ _ (shape_lines h) _
    (subst (Holds (g.K.Sink.held c.args.out.now) (g.K.Sink.held c.give_all.new.sink)) (c.as_slice.ensures ∙ c.of_shape.ensures) c.in_ok-give_all.ensures.ok)
    (HoldsPrefix_front _ _ (value_lines h) _
    (subst (HoldsPrefix (g.K.Sink.held c.give_all.new.sink) (g.K.Sink.held c.give_all-2.new.sink)) (c.as_slice-2.ensures ∙ c.of_values.ensures) c.in_err-give_all-2.ensures.err)))

pub returns-clause-err : goal.returns-clause-err
returns-clause-err g c =
    let h = c.args.outline.header in
    on_err_weaker c.give_all-3.result (λ prefix. HoldsPrefix_join _ _ _ (shape_lines h) _
    (subst (Holds (g.K.Sink.held c.args.out.now) (g.K.Sink.held c.give_all.new.sink)) (c.as_slice.ensures ∙ c.of_shape.ensures) c.in_ok-give_all.ensures.ok)
    (HoldsPrefix_join _ _ _ (value_lines h) _
    (subst (Holds (g.K.Sink.held c.give_all.new.sink) (g.K.Sink.held c.give_all-2.new.sink)) (c.as_slice-2.ensures ∙ c.of_values.ensures) c.in_ok-give_all-2.ensures.ok)
    (subst (HoldsPrefix (g.K.Sink.held c.give_all-2.new.sink) (g.K.Sink.held c.give_all-3.new.sink)) (c.as_slice-3.ensures ∙ c.of_forms.ensures) prefix))) c.give_all-3.ensures.err
