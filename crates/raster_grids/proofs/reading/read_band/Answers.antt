use Rattle.std.proofs.Common.{◌≡◌, ◌+◌, ◌*◌, ◌++◌, List, Bool, ℕ, ap, ◌∙◌, sym, subst, false, length, replicate, arith}
use Rattle.std.specs.Prelude.{pos}
use Rattle.std.proofs.lemmas.List.{length-replicate}
use Rattle.std.proofs.lemmas.Result.{err_from_is_err_and}
use Rattle.raster_cells.specs.declared.kind.PixelType.{PixelType}
use Rattle.raster_cells.specs.PixelType.{bytes_of}
use Rattle.raster_values.specs.Raster.{values_of}
use Rattle.raster_cells.specs.Values.{values_bytes}
use Rattle.raster_grids.specs.ReadGrid.{AreMarks, IsToldFault, mark_faults, value_faults}
use Rattle.raster_cells.specs.Masks.{count_of}
use Rattle.raster_grids.specs.BandsGrid.{IsBandGrid}
use Rattle.raster_cells.specs.CellList.{CellList}
use Rattle.raster_values.specs.View.{pixels_of, raster_of, AreVectors}
use Rattle.raster_cells.proofs.Pack.{on_err}
use Rattle.raster_grids.proofs.TakenBytes.{took_join, took_more}
use Rattle.raster_grids.proofs.TakenRuns.{values_counted}
use Rattle.raster_grids.proofs.GridParts.{area_few, band_of_parts, told_own, told_later, marks_long, zeros_changed}
use Rattle.raster_grids.proofs.reading.read_band.Goals as goal

-- how many marks there are
counted : (n : ℕ) (ms : List Bool) → ms ≡ replicate n false → length ms ≡ n
counted n ms is = ap length is ∙ length-replicate n false

-- and values
valued : (kind : PixelType) (n depth : ℕ) (ms : List Bool) (cells : CellList) → length ms ≡ n → cells ≡ record { kind = kind; values = replicate (n * depth) (pos 0) } → length cells.values ≡ length ms * depth
valued kind n depth ms cells count is = ap (λ (l : CellList). length l.values) is ∙ length-replicate (n * depth) (pos 0) ∙ ap (λ m. m * depth) (sym count)

pub returns-in_err-take_marks-clause-err : goal.returns-in_err-take_marks-clause-err
returns-in_err-take_marks-clause-err g c =
    let h = c.args.head in
    let p = err_from_is_err_and c.from_residual-in_err-take_marks.result c.from_residual-in_err-take_marks.ensures.1 in
    rw (p.1, p.2) (told_own (AreMarks (h.rows * h.cols)) (mark_faults (h.rows * h.cols)) (λ marks. value_faults (count_of marks * h.depth * bytes_of h.kind)) _ c.args.at c.in_err-take_marks.field-0.0
    (subst (λ n. IsToldFault (mark_faults n) (g.S.Source.left c.args.src.now) c.args.at c.in_err-take_marks.field-0.0) (counted (h.rows * h.cols) c.in_ok-marks.marks c.in_ok-marks.ensures.ok.0) c.in_err-take_marks.ensures.err))

pub overflow_add-behind : goal.overflow_add-behind
overflow_add-behind g c =
    let few = area_few c.args.head.rows c.args.head.cols c.args.head.depth c.requires.shape in
    omega (arith, few, c.requires.at)

pub take_values-requires-clause-at : goal.take_values-requires-clause-at
take_values-requires-clause-at g c =
    let few = area_few c.args.head.rows c.args.head.cols c.args.head.depth c.requires.shape in
    omega (arith, few, c.requires.at)

pub take_values-requires-clause-size : goal.take_values-requires-clause-size
take_values-requires-clause-size g c =
    let h = c.args.head in
    let many : length c.take_marks.new.marks ≡ h.rows * h.cols = c.take_marks.ensures.size ∙ counted (h.rows * h.cols) c.in_ok-marks.marks c.in_ok-marks.ensures.ok.0 in
    valued h.kind (h.rows * h.cols) h.depth c.take_marks.new.marks c.in_ok-marks.values many c.in_ok-marks.ensures.ok.1

pub take_values-requires-clause-few : goal.take_values-requires-clause-few
take_values-requires-clause-few g c =
    let h = c.args.head in
    omega (arith, ap (λ (l : CellList). length l.values) c.in_ok-marks.ensures.ok.1, length-replicate (h.rows * h.cols * h.depth) (pos 0), c.requires.shape.size)

pub returns-in_err-take_values-clause-err : goal.returns-in_err-take_values-clause-err
returns-in_err-take_values-clause-err g c =
    let h = c.args.head in
    let ms = c.take_marks.new.marks in
    let said = c.in_ok-take_marks.ensures.ok in
    let stands : AreMarks (h.rows * h.cols) said.0 ms = subst (λ n. AreMarks n said.0 ms) (counted (h.rows * h.cols) c.in_ok-marks.marks c.in_ok-marks.ensures.ok.0) said.1.0 in
    let many : length (values_of (pixels_of h.depth ms c.in_ok-marks.values.values)) * bytes_of c.in_ok-marks.values.kind ≡ count_of ms * h.depth * bytes_of h.kind =
    ap (λ n. n * bytes_of c.in_ok-marks.values.kind) (values_counted h.depth ms c.in_ok-marks.values.values (valued h.kind (h.rows * h.cols) h.depth ms c.in_ok-marks.values (c.take_marks.ensures.size ∙ counted (h.rows * h.cols) c.in_ok-marks.marks c.in_ok-marks.ensures.ok.0) c.in_ok-marks.ensures.ok.1))
    ∙ ap (λ (l : CellList). count_of ms * h.depth * bytes_of l.kind) c.in_ok-marks.ensures.ok.1 in
    let p = err_from_is_err_and c.from_residual-in_err-take_values.result c.from_residual-in_err-take_values.ensures.1 in
    rw (p.1, p.2) (told_later (AreMarks (h.rows * h.cols)) (mark_faults (h.rows * h.cols)) (λ marks. value_faults (count_of marks * h.depth * bytes_of h.kind)) _ _ said.0 ms c.args.at (c.args.at + h.rows * h.cols) c.in_err-take_values.field-0.0 stands said.1.1
    (omega (arith, marks_long (h.rows * h.cols) said.0 ms stands))
    (subst (λ n. IsToldFault (value_faults n) (g.S.Source.left c.take_marks.new.src) (c.args.at + h.rows * h.cols) c.in_err-take_values.field-0.0) many c.in_err-take_values.ensures.err))

pub returns-in_err-take_values-clause-some : goal.returns-in_err-take_values-clause-some
returns-in_err-take_values-clause-some g c =
    let said = c.in_ok-take_marks.ensures.ok in
    on_err c.from_residual-in_err-take_values.result (took_more _ _ _ said.0 said.1.1 c.in_err-take_values.ensures.some)

pub of_parts-requires : goal.of_parts-requires
of_parts-requires g c =
    let h = c.args.head in
    let many : length c.take_marks.new.marks ≡ h.rows * h.cols = c.take_marks.ensures.size ∙ counted (h.rows * h.cols) c.in_ok-marks.marks c.in_ok-marks.ensures.ok.0 in
    let zeros = zeros_changed h.kind h.rows h.cols h.depth c.take_marks.new.marks c.in_ok-marks.values c.take_values.new.values c.requires.shape many c.in_ok-marks.ensures.ok.1 c.take_values.ensures.kind c.take_values.ensures.changed in
    subst (AreVectors h.rows h.cols h.depth c.take_marks.new.marks) (sym c.into_cells.ensures) zeros

pub returns-clause-ok : goal.returns-clause-ok
returns-clause-ok g c =
    let h = c.args.head in
    let ms = c.take_marks.new.marks in
    let cells = c.take_values.new.values in
    let said = c.in_ok-take_marks.ensures.ok in
    let bytes = values_bytes c.in_ok-marks.values.kind (values_of (pixels_of h.depth ms cells.values)) in
    let stands : AreMarks (h.rows * h.cols) said.0 ms = subst (λ n. AreMarks n said.0 ms) (counted (h.rows * h.cols) c.in_ok-marks.marks c.in_ok-marks.ensures.ok.0) said.1.0 in
    let kind : c.in_ok-marks.values.kind ≡ h.kind = ap (λ (l : CellList). l.kind) c.in_ok-marks.ensures.ok.1 in (
      said.0 ++ bytes,
      (
        subst (IsBandGrid h (said.0 ++ bytes)) (sym (c.of_parts.ensures.value ∙ ap (λ (l : CellList). raster_of h.rows h.cols h.depth ms l) c.into_cells.ensures)) (band_of_parts h c.in_ok-marks.values.kind ms cells said.0 c.take_values.ensures.kind kind stands
            (zeros_changed h.kind h.rows h.cols h.depth ms c.in_ok-marks.values cells c.requires.shape (c.take_marks.ensures.size ∙ counted (h.rows * h.cols) c.in_ok-marks.marks c.in_ok-marks.ensures.ok.0) c.in_ok-marks.ensures.ok.1 c.take_values.ensures.kind c.take_values.ensures.changed)),
        took_join _ _ _ said.0 bytes said.1.1 c.in_ok-take_values.ensures.ok,
      ),
    )
