use Rattle.std.proofs.Common.{◌+◌, ℕ, w64, refl, ap}
use Rattle.std.proofs.lemmas.Int.{to_z-of_z}
use Rattle.std.proofs.lemmas.Result.{err_from_is_err_and}
use Rattle.ascii_grid.specs.declared.grid.AsciiGrid.{AsciiGrid}
use Rattle.ascii_grid.proofs.LgaSteps.{at_cell, at_flags, at_magic, at_nodata, at_x, at_y, before, lawful, stopped, up_cell, up_flags, up_magic, up_nodata, up_x, up_y, whole}
use Rattle.ascii_grid.proofs.lga.reading.lga_read.Goals as goal

pub returns-in_err-take_magic-clause-read : goal.returns-in_err-take_magic-clause-read
returns-in_err-take_magic-clause-read g c =
    let p = err_from_is_err_and c.from_residual.result c.from_residual.ensures.1 in
    rw (p.1, p.2) (stopped (g.S.Source.left c.args.src.now) c.in_err-take_magic.field-0.0
    (at_magic (g.S.Source.left c.args.src.now) c.in_err-take_magic.field-0.0 c.in_err-take_magic.ensures.err))

pub returns-in_err-centres-clause-read : goal.returns-in_err-centres-clause-read
returns-in_err-centres-clause-read g c =
    let p = err_from_is_err_and c.from_residual-in_err-centres.result c.from_residual-in_err-centres.ensures.1 in
    rw (p.1, p.2) (stopped (g.S.Source.left c.args.src.now) c.in_err-centres.field-0.0
    (up_magic (g.S.Source.left c.args.src.now) (g.S.Source.left c.take_magic.new.src) c.in_ok-take_magic.field-0 c.in_err-centres.field-0.0 c.in_ok-take_magic.ensures.ok (at_flags (g.S.Source.left c.take_magic.new.src) c.in_err-centres.field-0.0 c.in_err-centres.ensures.err)))

pub returns-in_err-x-clause-read : goal.returns-in_err-x-clause-read
returns-in_err-x-clause-read g c =
    let p = err_from_is_err_and c.from_residual-in_err-x.result c.from_residual-in_err-x.ensures.1 in
    rw (p.1, p.2) (stopped (g.S.Source.left c.args.src.now) c.in_err-x.field-0.0
    (up_magic (g.S.Source.left c.args.src.now) (g.S.Source.left c.take_magic.new.src) c.in_ok-take_magic.field-0 c.in_err-x.field-0.0 c.in_ok-take_magic.ensures.ok (up_flags (g.S.Source.left c.take_magic.new.src) (g.S.Source.left c.take_flags.new.src) c.in_ok-centres.centres c.in_err-x.field-0.0 c.in_ok-centres.ensures.ok (at_x (g.S.Source.left c.take_flags.new.src) 5 c.in_err-x.field-0.0 c.in_err-x.ensures.err))))

pub returns-in_err-y-clause-read : goal.returns-in_err-y-clause-read
returns-in_err-y-clause-read g c =
    let p = err_from_is_err_and c.from_residual-in_err-y.result c.from_residual-in_err-y.ensures.1 in
    rw (p.1, p.2) (stopped (g.S.Source.left c.args.src.now) c.in_err-y.field-0.0
    (up_magic (g.S.Source.left c.args.src.now) (g.S.Source.left c.take_magic.new.src) c.in_ok-take_magic.field-0 c.in_err-y.field-0.0 c.in_ok-take_magic.ensures.ok (up_flags (g.S.Source.left c.take_magic.new.src) (g.S.Source.left c.take_flags.new.src) c.in_ok-centres.centres c.in_err-y.field-0.0 c.in_ok-centres.ensures.ok (up_x (g.S.Source.left c.take_flags.new.src) (g.S.Source.left c.take_text.new.src) 5 (6 + c.len.result) c.in_ok-x.x c.in_err-y.field-0.0 c.in_ok-x.ensures.ok (ap (λ (n : ℕ). 6 + n) c.len.ensures) (at_y (g.S.Source.left c.take_text.new.src) (6 + c.len.result) c.in_err-y.field-0.0 c.in_err-y.ensures.err)))))

pub returns-in_err-cell-clause-read : goal.returns-in_err-cell-clause-read
returns-in_err-cell-clause-read g c =
    let p = err_from_is_err_and c.from_residual-in_err-cell.result c.from_residual-in_err-cell.ensures.1 in
    rw (p.1, p.2) (stopped (g.S.Source.left c.args.src.now) c.in_err-cell.field-0.0
    (up_magic (g.S.Source.left c.args.src.now) (g.S.Source.left c.take_magic.new.src) c.in_ok-take_magic.field-0 c.in_err-cell.field-0.0 c.in_ok-take_magic.ensures.ok (up_flags (g.S.Source.left c.take_magic.new.src) (g.S.Source.left c.take_flags.new.src) c.in_ok-centres.centres c.in_err-cell.field-0.0 c.in_ok-centres.ensures.ok (up_x (g.S.Source.left c.take_flags.new.src) (g.S.Source.left c.take_text.new.src) 5 (6 + c.len.result) c.in_ok-x.x c.in_err-cell.field-0.0 c.in_ok-x.ensures.ok (ap (λ (n : ℕ). 6 + n) c.len.ensures) (up_y (g.S.Source.left c.take_text.new.src) (g.S.Source.left c.take_text-2.new.src) (6 + c.len.result) (6 + c.len.result + 1 + c.len-2.result) c.in_ok-y.y c.in_err-cell.field-0.0 c.in_ok-y.ensures.ok (ap (λ (n : ℕ). 6 + c.len.result + 1 + n) c.len-2.ensures) (at_cell (g.S.Source.left c.take_text-2.new.src) (6 + c.len.result + 1 + c.len-2.result) c.in_err-cell.field-0.0 c.in_err-cell.ensures.err))))))

pub returns-in_err-nodata-clause-read : goal.returns-in_err-nodata-clause-read
returns-in_err-nodata-clause-read g c =
    let p = err_from_is_err_and c.from_residual-in_err-nodata.result c.from_residual-in_err-nodata.ensures.1 in
    rw (p.1, p.2) (stopped (g.S.Source.left c.args.src.now) c.in_err-nodata.field-0.0
    (up_magic (g.S.Source.left c.args.src.now) (g.S.Source.left c.take_magic.new.src) c.in_ok-take_magic.field-0 c.in_err-nodata.field-0.0 c.in_ok-take_magic.ensures.ok (up_flags (g.S.Source.left c.take_magic.new.src) (g.S.Source.left c.take_flags.new.src) c.in_ok-centres.centres c.in_err-nodata.field-0.0 c.in_ok-centres.ensures.ok (up_x (g.S.Source.left c.take_flags.new.src) (g.S.Source.left c.take_text.new.src) 5 (6 + c.len.result) c.in_ok-x.x c.in_err-nodata.field-0.0 c.in_ok-x.ensures.ok (ap (λ (n : ℕ). 6 + n) c.len.ensures) (up_y (g.S.Source.left c.take_text.new.src) (g.S.Source.left c.take_text-2.new.src) (6 + c.len.result) (6 + c.len.result + 1 + c.len-2.result) c.in_ok-y.y c.in_err-nodata.field-0.0 c.in_ok-y.ensures.ok (ap (λ (n : ℕ). 6 + c.len.result + 1 + n) c.len-2.ensures) (up_cell (g.S.Source.left c.take_text-2.new.src) (g.S.Source.left c.take_text-3.new.src) (6 + c.len.result + 1 + c.len-2.result) (6 + c.len.result + 1 + c.len-2.result + 1 + c.len-3.result) c.in_ok-cell.cell c.in_err-nodata.field-0.0 c.in_ok-cell.ensures.ok (ap (λ (n : ℕ). 6 + c.len.result + 1 + c.len-2.result + 1 + n) c.len-3.ensures) (at_nodata (g.S.Source.left c.take_text-3.new.src) (6 + c.len.result + 1 + c.len-2.result + 1 + c.len-3.result) c.in_err-nodata.field-0.0 c.in_err-nodata.ensures.err)))))))

pub returns-in_err-raster-clause-read : goal.returns-in_err-raster-clause-read
returns-in_err-raster-clause-read g c =
    let p = err_from_is_err_and c.from_residual-in_err-raster.result c.from_residual-in_err-raster.ensures.1 in
    rw (p.1, p.2) (stopped (g.S.Source.left c.args.src.now) c.in_err-raster.field-0.0
    (up_magic (g.S.Source.left c.args.src.now) (g.S.Source.left c.take_magic.new.src) c.in_ok-take_magic.field-0 c.in_err-raster.field-0.0 c.in_ok-take_magic.ensures.ok (up_flags (g.S.Source.left c.take_magic.new.src) (g.S.Source.left c.take_flags.new.src) c.in_ok-centres.centres c.in_err-raster.field-0.0 c.in_ok-centres.ensures.ok (up_x (g.S.Source.left c.take_flags.new.src) (g.S.Source.left c.take_text.new.src) 5 (6 + c.len.result) c.in_ok-x.x c.in_err-raster.field-0.0 c.in_ok-x.ensures.ok (ap (λ (n : ℕ). 6 + n) c.len.ensures) (up_y (g.S.Source.left c.take_text.new.src) (g.S.Source.left c.take_text-2.new.src) (6 + c.len.result) (6 + c.len.result + 1 + c.len-2.result) c.in_ok-y.y c.in_err-raster.field-0.0 c.in_ok-y.ensures.ok (ap (λ (n : ℕ). 6 + c.len.result + 1 + n) c.len-2.ensures) (up_cell (g.S.Source.left c.take_text-2.new.src) (g.S.Source.left c.take_text-3.new.src) (6 + c.len.result + 1 + c.len-2.result) (6 + c.len.result + 1 + c.len-2.result + 1 + c.len-3.result) c.in_ok-cell.cell c.in_err-raster.field-0.0 c.in_ok-cell.ensures.ok (ap (λ (n : ℕ). 6 + c.len.result + 1 + c.len-2.result + 1 + n) c.len-3.ensures) (up_nodata (g.S.Source.left c.take_text-3.new.src) (g.S.Source.left c.take_nodata.new.src) (6 + c.len.result + 1 + c.len-2.result + 1 + c.len-3.result) ((6 + c.len.result + 1 + c.len-2.result + 1 + c.len-3.result) + 8) c.in_ok-nodata.nodata c.in_err-raster.field-0.0 c.in_ok-nodata.ensures.ok refl (rw (to_z-of_z w64 c.in_ok-nodata.nodata c.in_ok-nodata.ensures.fits) at c.in_err-raster.ensures.err))))))))

pub returns-clause-read : goal.returns-clause-read
returns-clause-read g c =
    let centres = c.in_ok-centres.centres in
    let grid : AsciiGrid = record {
      geo = record { x = c.in_ok-x.x; x_centre = centres.x; y = c.in_ok-y.y; y_centre = centres.y; cell = c.in_ok-cell.cell; nodata = c.in_ok-nodata.nodata };
      raster = c.in_ok-raster.raster;
    } in
    let front = before grid (g.S.Source.left c.args.src.now) (g.S.Source.left c.take_magic.new.src) (g.S.Source.left c.take_flags.new.src) (g.S.Source.left c.take_text.new.src) (g.S.Source.left c.take_text-2.new.src) (g.S.Source.left c.take_text-3.new.src) (g.S.Source.left c.take_nodata.new.src) c.in_ok-take_magic.field-0 c.in_ok-take_magic.ensures.ok c.in_ok-centres.ensures.ok c.in_ok-x.ensures.ok c.in_ok-y.ensures.ok c.in_ok-cell.ensures.ok c.in_ok-nodata.ensures.ok in
    let has = rw (to_z-of_z w64 c.in_ok-nodata.nodata c.in_ok-nodata.ensures.fits) at c.in_ok-raster.ensures.lawful in
    rw (to_z-of_z w64 c.in_ok-nodata.nodata c.in_ok-nodata.ensures.fits) (whole grid (g.S.Source.left c.args.src.now) (g.S.Source.left c.take_nodata.new.src) front c.in_ok-raster.ensures.all has.0 has.1)

pub returns-clause-lawful : goal.returns-clause-lawful
returns-clause-lawful g c =
    let centres = c.in_ok-centres.centres in
    let grid : AsciiGrid = record {
      geo = record { x = c.in_ok-x.x; x_centre = centres.x; y = c.in_ok-y.y; y_centre = centres.y; cell = c.in_ok-cell.cell; nodata = c.in_ok-nodata.nodata };
      raster = c.in_ok-raster.raster;
    } in
    let front = before grid (g.S.Source.left c.args.src.now) (g.S.Source.left c.take_magic.new.src) (g.S.Source.left c.take_flags.new.src) (g.S.Source.left c.take_text.new.src) (g.S.Source.left c.take_text-2.new.src) (g.S.Source.left c.take_text-3.new.src) (g.S.Source.left c.take_nodata.new.src) c.in_ok-take_magic.field-0 c.in_ok-take_magic.ensures.ok c.in_ok-centres.ensures.ok c.in_ok-x.ensures.ok c.in_ok-y.ensures.ok c.in_ok-cell.ensures.ok c.in_ok-nodata.ensures.ok in
    let has = rw (to_z-of_z w64 c.in_ok-nodata.nodata c.in_ok-nodata.ensures.fits) at c.in_ok-raster.ensures.lawful in
    rw (to_z-of_z w64 c.in_ok-nodata.nodata c.in_ok-nodata.ensures.fits) (lawful grid (g.S.Source.left c.args.src.now) (g.S.Source.left c.take_nodata.new.src) front has.0 has.1)
