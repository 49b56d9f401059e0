use Rattle.std.proofs.Common.{◌∷◌, [], length, rules}
use Rattle.std.proofs.lemmas.Result.{IfOk-from_err, on_err_weaker, on_ok_weaker}
use Rattle.outside_io.proofs.StreamLemmas.Gives.{HoldsPrefix_front, HoldsPrefix_join, Holds_join}
use Rattle.ascii_grid.proofs.PageSteps.{on_err}
use Rattle.ascii_grid.proofs.lga.writing.give_text.Goals as goal

pub returns-in_err-give_all : goal.returns-in_err-give_all
returns-in_err-give_all g c = record {
  gives = record {
    ok = IfOk-from_err c.from_residual.result _ c.from_residual.ensures.0;
    err = on_err c.from_residual.result (HoldsPrefix_front _ _ (length c.args.text.now ∷ []) c.args.text.now c.in_err-give_all.ensures.err);
    counted = search rules;
  };
}

pub returns : goal.returns
returns g c = record {
  gives = record {
    ok = on_ok_weaker c.give_all-2.result (λ h. Holds_join _ _ _ (length c.args.text.now ∷ []) c.args.text.now c.in_ok-give_all.ensures.ok h) c.give_all-2.ensures.ok;
    err = on_err_weaker c.give_all-2.result (λ h. HoldsPrefix_join _ _ _ (length c.args.text.now ∷ []) c.args.text.now c.in_ok-give_all.ensures.ok h) c.give_all-2.ensures.err;
    counted = search rules;
  };
}
