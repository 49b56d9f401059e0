use Rattle.std.proofs.Common.{◌≡◌, ◌+◌, ◌%◌, sym, ap, ◌∙◌, arith, inl, inr}
use Rattle.std.proofs.lemmas.Bool.{cases_lt}
use Rattle.delta_mode.specs.inside.Bytewise.{wrapped}
use Rattle.delta_mode.specs.inside.Strided.{cell}
use Rattle.delta_mode.proofs.Predictors.{mod_positive}
use Rattle.delta_mode.proofs.Strided.{before_left, before_first}
use Rattle.delta_mode.proofs.full.byte_piece.Goals as goal

pub returns : goal.returns
returns c = record {
  symbols = λ i lt.
      let byte = cell c.args.depth c.args.d c.args.cells.now in
      let bias = c.args.bias in
      let cols = c.args.cols in
      let k = c.args.place + i in
      elim (cases_lt 0 (k % cols)) [
        | inl some ↦
            c.first_column.ensures.others i some ∙ c.differences.ensures.symbols i (c.first_behind.ensures.least i (mod_positive k cols some)) lt
            ∙ ap (wrapped bias (byte k)) (sym (before_left cols byte k some))
        | inr none ↦
            let first : k % cols ≡ 0 = omega (arith, none) in
            c.first_column.ensures.symbols i (omega (arith, lt, c.differences.auto.out)) first
            ∙ ap (wrapped bias (byte k)) (sym (before_first cols byte k first))
      ];
}
