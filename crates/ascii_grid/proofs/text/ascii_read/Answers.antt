use Rattle.std.proofs.Common.{◌∙◌, ap, Ok, Err, length, w64}
use Rattle.std.proofs.lemmas.Int.{to_z-of_z}
use Rattle.std.proofs.lemmas.Result.{err_from_is_err_and}
use Rattle.raster_values.specs.Raster.{Pixels}
use Rattle.ascii_grid.specs.Text.{AsciiRead}
use Rattle.ascii_grid.proofs.TextSteps.{cells_stopped, head_stopped, looked, text_done, text_left, where_told}
use Rattle.ascii_grid.proofs.text.ascii_read.Goals as goal

pub returns-in_err-head-clause-read : goal.returns-in_err-head-clause-read
returns-in_err-head-clause-read g c =
    let p = err_from_is_err_and c.from_residual.result c.from_residual.ensures.1 in
    rw (p.1, p.2) (where_told (g.S.Source.left c.args.src.now) (AsciiRead (Err c.in_err-head.field-0.0) c.args.kind) (λ text is.
    head_stopped (g.S.Source.left c.read_head.new.src) c.read_head.new.window text c.args.kind c.in_err-head.field-0.0 (c.in_err-head.ensures.read (length text) (looked text) (text_left (g.S.Source.left c.args.src.now) c.new-window.result text is c.new-window.ensures))))

pub returns-in_err-read_cells-clause-read : goal.returns-in_err-read_cells-clause-read
returns-in_err-read_cells-clause-read g c =
    let p = err_from_is_err_and c.from_residual-in_err-read_cells.result c.from_residual-in_err-read_cells.ensures.1 in
    rw (p.1, p.2) (where_told (g.S.Source.left c.args.src.now) (AsciiRead (Err c.in_err-read_cells.field-0.0) c.args.kind) (λ text is.
    let behind = c.in_ok-head.ensures.read (length text) (looked text) (text_left (g.S.Source.left c.args.src.now) c.new-window.result text is c.new-window.ensures) in
    let lies = c.in_ok-geo.ensures.ok behind.pairs behind.keeps behind.all in
    cells_stopped (g.S.Source.left c.read_head.new.src) c.read_head.new.window text c.args.kind c.in_ok-head.head c.in_ok-head.first c.in_ok-geo.geo.nodata c.in_ok-raster.raster c.read_cells.new.raster c.in_err-read_cells.field-0.0 behind lies.nodata
    (ap (λ (r : Pixels). r.kind) c.in_ok-raster.ensures.blank) c.in_ok-raster.ensures.sizes.0 c.in_ok-raster.ensures.sizes.1 (rw (to_z-of_z w64 c.in_ok-geo.geo.nodata c.in_ok-geo.ensures.fits) at (c.in_err-read_cells.ensures.read (length text) behind.rest behind.later))))

pub returns-clause-read : goal.returns-clause-read
returns-clause-read g c = where_told (g.S.Source.left c.args.src.now) (AsciiRead (Ok (record { geo = c.in_ok-geo.geo; raster = c.read_cells.new.raster })) c.args.kind) (λ text is.
    let behind = c.in_ok-head.ensures.read (length text) (looked text) (text_left (g.S.Source.left c.args.src.now) c.new-window.result text is c.new-window.ensures) in
    let lies = c.in_ok-geo.ensures.ok behind.pairs behind.keeps behind.all in
    text_done (g.S.Source.left c.read_head.new.src) c.read_head.new.window text c.args.kind c.in_ok-head.head c.in_ok-head.first c.in_ok-geo.geo c.in_ok-raster.raster c.read_cells.new.raster behind lies
    c.in_ok-raster.ensures.blank c.in_ok-raster.ensures.sizes.0 c.in_ok-raster.ensures.sizes.1 (rw (to_z-of_z w64 c.in_ok-geo.geo.nodata c.in_ok-geo.ensures.fits) at (c.in_ok-read_cells.ensures.read (length text) behind.rest behind.later)))

pub returns-clause-lawful : goal.returns-clause-lawful
returns-clause-lawful g c =
    let fair = c.in_ok-head.ensures.fair in
    record {
      depth = ap (λ (r : Pixels). r.depth) c.in_ok-read_cells.ensures.shape ∙ ap (λ (r : Pixels). r.depth) c.in_ok-raster.ensures.blank;
      geo = c.in_ok-geo.ensures.lawful fair.0 fair.1;
      apart = rw (to_z-of_z w64 c.in_ok-geo.geo.nodata c.in_ok-geo.ensures.fits) at c.in_ok-read_cells.ensures.apart;
    }
