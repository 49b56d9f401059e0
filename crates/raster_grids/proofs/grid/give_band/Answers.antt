use Rattle.std.proofs.Common.{◌≡◌, ◌*◌, ℕ, List, Bool, ap, ◌∙◌, sym, subst, length}
use Rattle.std.proofs.lemmas.Result.{on_ok_weaker, on_err_weaker}
use Rattle.outside_io.specs.streams.Sink.{Holds, HoldsPrefix}
use Rattle.outside_io.proofs.StreamLemmas.Gives.{Holds_join, HoldsPrefix_front, HoldsPrefix_join}
use Rattle.raster_values.specs.Raster.{Pixels, values_of}
use Rattle.raster_values.specs.Flat.{marks_of}
use Rattle.raster_grids.specs.Grid.{grid_marks}
use Rattle.raster_cells.specs.Values.{values_bytes}
use Rattle.raster_cells.specs.CellList.{CellList}
use Rattle.raster_cells.specs.MarkBytes.{mark_bytes}
use Rattle.raster_values.specs.View.{pixels_of, raster_of}
use Rattle.raster_grids.proofs.Pack.{grid_marks-pixels_of}
use Rattle.raster_cells.proofs.Pack.{on_err}
use Rattle.raster_grids.proofs.grid.give_band.Goals as goal

-- the bytes of the marks
marked : (r : Pixels) (ms : List Bool) (cells : CellList) → ms ≡ marks_of r → r ≡ raster_of r.rows r.cols r.depth (marks_of r) cells → mark_bytes ms ≡ grid_marks r
marked r ms cells are is = ap mark_bytes are ∙ sym (grid_marks-pixels_of r.depth (marks_of r) cells.values) ∙ ap grid_marks (sym is)

-- the bytes of the values
valued : (r : Pixels) (depth : ℕ) (ms : List Bool) (cells : CellList) → depth ≡ r.depth → ms ≡ marks_of r → r ≡ raster_of r.rows r.cols r.depth (marks_of r) cells
    → values_bytes cells.kind (values_of (pixels_of depth ms cells.values)) ≡ values_bytes r.kind (values_of r.pixels)
valued r depth ms cells deep are is =
    (λ i. values_bytes cells.kind (values_of (pixels_of (deep i) (are i) cells.values))) ∙ ap (λ (p : Pixels). values_bytes p.kind (values_of p.pixels)) (sym is)

pub returns-in_err-give_marks-clause-err : goal.returns-in_err-give_marks-clause-err
returns-in_err-give_marks-clause-err g c =
    let r = c.args.raster.now in
    let marks = marked r c.mask-marks.result.now c.samples-samples.result.now c.mask-marks.ensures c.samples-samples.ensures.value in
    on_err c.from_residual.result (HoldsPrefix_front _ _ (grid_marks r) (values_bytes r.kind (values_of r.pixels)) (subst (HoldsPrefix _ _) marks c.in_err-give_marks.ensures.err))

pub give_values-requires-clause-size : goal.give_values-requires-clause-size
give_values-requires-clause-size g c =
    let vectors = c.samples-samples.ensures.vectors in
    vectors.values ∙ (λ i. sym vectors.marks i * sym c.depth.ensures.value i) ∙ ap (λ (ms : List Bool). length ms * c.depth.result) (sym c.mask-marks.ensures)

pub returns-clause-ok : goal.returns-clause-ok
returns-clause-ok g c =
    let r = c.args.raster.now in
    let marks = marked r c.mask-marks.result.now c.samples-samples.result.now c.mask-marks.ensures c.samples-samples.ensures.value in
    let values = valued r c.depth.result c.mask-marks.result.now c.samples-samples.result.now c.depth.ensures.value c.mask-marks.ensures c.samples-samples.ensures.value in
    on_ok_weaker c.give_values.result
    (λ h. Holds_join _ _ _ (grid_marks r) (values_bytes r.kind (values_of r.pixels)) (subst (Holds _ _) marks c.in_ok-give_marks.ensures.ok) (subst (Holds _ _) values h)) c.give_values.ensures.ok

pub returns-clause-err : goal.returns-clause-err
returns-clause-err g c =
    let r = c.args.raster.now in
    let marks = marked r c.mask-marks.result.now c.samples-samples.result.now c.mask-marks.ensures c.samples-samples.ensures.value in
    let values = valued r c.depth.result c.mask-marks.result.now c.samples-samples.result.now c.depth.ensures.value c.mask-marks.ensures c.samples-samples.ensures.value in
    on_err_weaker c.give_values.result
    (λ h. HoldsPrefix_join _ _ _ (grid_marks r) (values_bytes r.kind (values_of r.pixels)) (subst (Holds _ _) marks c.in_ok-give_marks.ensures.ok) (subst (HoldsPrefix _ _) values h)) c.give_values.ensures.err
