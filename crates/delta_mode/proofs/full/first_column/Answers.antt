use Rattle.std.proofs.Common.{◌≡◌, ◌≢◌, ◌+◌, ◌%◌, length, get_or, set, refl, sym, ap, ◌∙◌, arith, inl, inr}
use Rattle.std.proofs.lemmas.Bool.{cases_lt}
use Rattle.std.proofs.lemmas.List.{get_or-set_same, get_or-set_other}
use Rattle.std.proofs.Math.ListN.{length-set}
use Rattle.delta_mode.specs.inside.Bytewise.{wrapped}
use Rattle.delta_mode.specs.inside.Strided.{cell, cell_above}
use Rattle.delta_mode.proofs.Bytewise.{column_next, column_one, not_first}
use Rattle.delta_mode.proofs.FullPieces.{column_none, column_start, row_there}
use Rattle.delta_mode.proofs.full.first_column.Goals as goal

pub loop-at-init : goal.loop-at-init
loop-at-init c = record {
  room = refl;
  column = column_start c.args.place c.args.cols c.requires.cols;
  done = λ i lt is. absurd (column_none c.args.place c.args.cols i c.requires.cols lt is);
  others = λ i some. refl;
}

pub first_of_row-requires-clause-size : goal.first_of_row-requires-clause-size
first_of_row-requires-clause-size c =
    let test = c.loop-at-test.true in
    row_there (c.args.place + length c.args.out.now) c.args.depth (c.args.place + c.loop-at.at) (length c.args.cells.now) (omega (arith, test, c.loop-at.invariant.room)) c.requires.cells.size

pub loop-at-preserved : goal.loop-at-preserved
loop-at-preserved c =
    let cols = c.args.cols in
    let place = c.args.place in
    let at = c.loop-at.at in
    let out = c.loop-at.out in
    let byte = cell c.args.depth c.args.d c.args.cells.now in
    let v = c.first_of_row.result in
    let inv = c.loop-at.invariant in
    let column = inv.column in
    let next : place + at + cols ≡ place + (at + cols) = omega arith in
    record {
      room = length-set out at v ∙ inv.room;
      column = ap (λ n. n % cols) (sym next) ∙ column_next cols (place + at) column;
      done = λ i lt first. elim (cases_lt i at) [
        | inl below ↦ get_or-set_other out at i v 0 (let ne : i ≢ at = omega (arith, below) in ne) ∙ inv.done i below first
        | inr from ↦
            let same : place + i ≡ place + at = column_one cols (place + at) (place + i) column (omega (arith, from)) (omega (arith, lt)) first in
            let is : i ≡ at = omega (arith, same) in
            ap (λ n. get_or (set out at v) n 0) is
            ∙ get_or-set_same out at v 0 (omega (arith, c.loop-at-test.true))
            ∙ c.first_of_row.ensures
            ∙ ap (λ n. wrapped c.args.bias (byte n) (cell_above cols byte n)) (sym same)
      ];
      others = λ i some.
          let ne : place + i ≢ place + at = not_first cols (place + at) (place + i) column some in
          get_or-set_other out at i v 0 (λ is. ne (ap (λ n. place + n) is)) ∙ inv.others i some;
    }
