use Rattle.std.proofs.Common.{rules}
use Rattle.std.proofs.lemmas.Result.{IfOk-from_err, on_ok_weaker, on_err_weaker}
use Rattle.ascii_grid.proofs.PageSteps.{line_first, line_later, line_waits, on_err}
use Rattle.ascii_grid.proofs.canon.text_line.Goals as goal

pub returns-in_err-word : goal.returns-in_err-word
returns-in_err-word g c = record {
  adds = record {
    ok = IfOk-from_err c.from_residual.result _ c.from_residual.ensures.0;
    err =
        on_err c.from_residual.result (line_first (g.K.Sink.held c.args.sink.now) (g.K.Sink.held c.word.new.sink) c.args.page.now c.args.key c.name.result.now c.args.value.now c.name.ensures.name c.in_err-word.ensures.adds.err);
    counted = search rules;
  };
}

pub returns : goal.returns
returns g c = record {
  adds = record {
    ok =
        on_ok_weaker c.word-2.result (λ h. line_waits (g.K.Sink.held c.args.sink.now) (g.K.Sink.held c.word.new.sink) (g.K.Sink.held c.word-2.new.sink) c.args.page.now c.word.new.self c.word-2.new.self c.args.key c.name.result.now c.args.value.now c.name.ensures.name c.in_ok-word.ensures.adds.ok h) c.word-2.ensures.adds.ok;
    err =
        on_err_weaker c.word-2.result (λ h. line_later (g.K.Sink.held c.args.sink.now) (g.K.Sink.held c.word.new.sink) (g.K.Sink.held c.word-2.new.sink) c.args.page.now c.word.new.self c.args.key c.name.result.now c.args.value.now c.name.ensures.name c.in_ok-word.ensures.adds.ok h) c.word-2.ensures.adds.err;
    counted = search rules;
  };
}
