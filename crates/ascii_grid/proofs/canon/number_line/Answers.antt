use Rattle.std.proofs.Common.{w64, rules}
use Rattle.std.proofs.lemmas.Int.{to_z-of_z}
use Rattle.std.specs.Fmt.{signed_decimal}
use Rattle.std.proofs.lemmas.Result.{IfOk-from_err, on_ok_weaker, on_err_weaker}
use Rattle.ascii_grid.proofs.PageSteps.{line_first, line_later, line_waits, on_err}
use Rattle.ascii_grid.proofs.canon.number_line.Goals as goal

pub returns-in_err-word : goal.returns-in_err-word
returns-in_err-word g c = record {
  adds = record {
    ok = IfOk-from_err c.from_residual.result _ c.from_residual.ensures.0;
    err =
        on_err c.from_residual.result (line_first (g.K.Sink.held c.args.sink.now) (g.K.Sink.held c.word.new.sink) c.args.page.now c.args.key c.name.result.now (signed_decimal c.args.value) c.name.ensures.name c.in_err-word.ensures.adds.err);
    counted = search rules;
  };
}

pub returns : goal.returns
returns g c = record {
  adds = record {
    ok =
        on_ok_weaker c.number.result (λ h. line_waits (g.K.Sink.held c.args.sink.now) (g.K.Sink.held c.word.new.sink) (g.K.Sink.held c.number.new.sink) c.args.page.now c.word.new.self c.number.new.self c.args.key c.name.result.now (signed_decimal c.args.value) c.name.ensures.name c.in_ok-word.ensures.adds.ok h) (rw (to_z-of_z w64 c.args.value c.ranges.value) at c.number.ensures.adds.ok);
    err =
        on_err_weaker c.number.result (λ h. line_later (g.K.Sink.held c.args.sink.now) (g.K.Sink.held c.word.new.sink) (g.K.Sink.held c.number.new.sink) c.args.page.now c.word.new.self c.args.key c.name.result.now (signed_decimal c.args.value) c.name.ensures.name c.in_ok-word.ensures.adds.ok h) (rw (to_z-of_z w64 c.args.value c.ranges.value) at c.number.ensures.adds.err);
    counted = search rules;
  };
}
