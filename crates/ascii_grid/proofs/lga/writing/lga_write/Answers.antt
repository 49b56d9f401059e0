use Rattle.std.proofs.Common.{◌∷◌, ◌++◌, [], List, ℕ}
use Rattle.std.specs.Prelude.{codes}
use Rattle.std.proofs.lemmas.Result.{on_err_weaker}
use Rattle.outside_io.proofs.StreamLemmas.Gives.{HoldsPrefix_front, HoldsPrefix_join}
use Rattle.ascii_grid.specs.declared.grid.AsciiGrid.{AsciiGrid}
use Rattle.ascii_grid.specs.Lga.{flags_of, last_fields, text_field}
use Rattle.ascii_grid.proofs.PageSteps.{on_err}
use Rattle.ascii_grid.proofs.lga.writing.lga_write.Goals as goal

-- the fields from each one on
abbrev flags : AsciiGrid → List ℕ
flags g = flags_of (record { x = g.geo.x_centre; y = g.geo.y_centre }) ∷ []

abbrev from_cell : AsciiGrid → List ℕ
from_cell g = text_field g.geo.cell ++ last_fields g

abbrev from_y : AsciiGrid → List ℕ
from_y g = text_field g.geo.y ++ from_cell g

abbrev from_x : AsciiGrid → List ℕ
from_x g = text_field g.geo.x ++ from_y g

pub returns-in_err-give_all-clause-err : goal.returns-in_err-give_all-clause-err
returns-in_err-give_all-clause-err g c =
    let g0 = c.args.grid.now in
    on_err c.from_residual.result (HoldsPrefix_front _ _ (codes "LGA1") (flags g0 ++ from_x g0) c.in_err-give_all.ensures.err)

pub returns-in_err-give_all-2-clause-err : goal.returns-in_err-give_all-2-clause-err
returns-in_err-give_all-2-clause-err g c =
    let g0 = c.args.grid.now in
    on_err c.from_residual-in_err-give_all-2.result (HoldsPrefix_join _ _ _ (codes "LGA1") (flags g0 ++ from_x g0) c.in_ok-give_all.ensures.ok
    (HoldsPrefix_front _ _ (flags g0) (from_x g0) (rw c.flags.ensures at c.in_err-give_all-2.ensures.err)))

pub returns-in_err-give_text-clause-err : goal.returns-in_err-give_text-clause-err
returns-in_err-give_text-clause-err g c =
    let g0 = c.args.grid.now in
    on_err c.from_residual-in_err-give_text.result (HoldsPrefix_join _ _ _ (codes "LGA1") (flags g0 ++ from_x g0) c.in_ok-give_all.ensures.ok
    (HoldsPrefix_join _ _ _ (flags g0) (from_x g0) (rw c.flags.ensures at c.in_ok-give_all-2.ensures.ok)
    (HoldsPrefix_front _ _ (text_field g0.geo.x) (from_y g0) (rw c.as_slice.ensures at c.in_err-give_text.ensures.gives.err))))

pub returns-in_err-give_text-2-clause-err : goal.returns-in_err-give_text-2-clause-err
returns-in_err-give_text-2-clause-err g c =
    let g0 = c.args.grid.now in
    on_err c.from_residual-in_err-give_text-2.result (HoldsPrefix_join _ _ _ (codes "LGA1") (flags g0 ++ from_x g0) c.in_ok-give_all.ensures.ok
    (HoldsPrefix_join _ _ _ (flags g0) (from_x g0) (rw c.flags.ensures at c.in_ok-give_all-2.ensures.ok)
    (HoldsPrefix_join _ _ _ (text_field g0.geo.x) (from_y g0) (rw c.as_slice.ensures at c.in_ok-give_text.ensures.gives.ok)
    (HoldsPrefix_front _ _ (text_field g0.geo.y) (from_cell g0) (rw c.as_slice-2.ensures at c.in_err-give_text-2.ensures.gives.err)))))

pub returns-in_err-give_text-3-clause-err : goal.returns-in_err-give_text-3-clause-err
returns-in_err-give_text-3-clause-err g c =
    let g0 = c.args.grid.now in
    on_err c.from_residual-in_err-give_text-3.result (HoldsPrefix_join _ _ _ (codes "LGA1") (flags g0 ++ from_x g0) c.in_ok-give_all.ensures.ok
    (HoldsPrefix_join _ _ _ (flags g0) (from_x g0) (rw c.flags.ensures at c.in_ok-give_all-2.ensures.ok)
    (HoldsPrefix_join _ _ _ (text_field g0.geo.x) (from_y g0) (rw c.as_slice.ensures at c.in_ok-give_text.ensures.gives.ok)
    (HoldsPrefix_join _ _ _ (text_field g0.geo.y) (from_cell g0) (rw c.as_slice-2.ensures at c.in_ok-give_text-2.ensures.gives.ok)
    (HoldsPrefix_front _ _ (text_field g0.geo.cell) (last_fields g0) (rw c.as_slice-3.ensures at c.in_err-give_text-3.ensures.gives.err))))))

pub returns-clause-err : goal.returns-clause-err
returns-clause-err g c =
    let g0 = c.args.grid.now in
    on_err_weaker c.give_last.result (λ h. (HoldsPrefix_join _ _ _ (codes "LGA1") (flags g0 ++ from_x g0) c.in_ok-give_all.ensures.ok
    (HoldsPrefix_join _ _ _ (flags g0) (from_x g0) (rw c.flags.ensures at c.in_ok-give_all-2.ensures.ok)
    (HoldsPrefix_join _ _ _ (text_field g0.geo.x) (from_y g0) (rw c.as_slice.ensures at c.in_ok-give_text.ensures.gives.ok)
    (HoldsPrefix_join _ _ _ (text_field g0.geo.y) (from_cell g0) (rw c.as_slice-2.ensures at c.in_ok-give_text-2.ensures.gives.ok)
    (HoldsPrefix_join _ _ _ (text_field g0.geo.cell) (last_fields g0) (rw c.as_slice-3.ensures at c.in_ok-give_text-3.ensures.gives.ok)
    h)))))) c.give_last.ensures.gives.err
