use Rattle.std.proofs.Common.{w64, rules}
use Rattle.std.proofs.lemmas.Int.{to_z-of_z}
use Rattle.std.proofs.lemmas.Result.{IfOk-from_err, on_err_weaker, on_ok_weaker}
use Rattle.outside_io.proofs.StreamLemmas.Gives.{HoldsPrefix_front, HoldsPrefix_join, Holds_join}
use Rattle.byteorder.specs.Endian.{little_bytes}
use Rattle.raster_grids.specs.Grid.{grid_of}
use Rattle.raster_cells.specs.PixelType.{complement_of}
use Rattle.ascii_grid.proofs.PageSteps.{fits, on_err}
use Rattle.ascii_grid.proofs.lga.writing.give_last.Goals as goal

pub returns-in_err-give_all : goal.returns-in_err-give_all
returns-in_err-give_all g c = record {
  gives = record {
    ok = IfOk-from_err c.from_residual.result _ c.from_residual.ensures.0;
    err =
        let is = fits c.args.grid.now.geo.nodata c.requires.geo.nodata in
        on_err c.from_residual.result (HoldsPrefix_front _ _ (little_bytes 8 (complement_of 8 c.args.grid.now.geo.nodata)) (grid_of c.args.grid.now.raster) (rw (c.nodata_bytes.ensures, to_z-of_z w64 c.args.grid.now.geo.nodata is) at c.in_err-give_all.ensures.err));
    counted = search rules;
  };
}

pub returns : goal.returns
returns g c = record {
  gives = record {
    ok =
        let is = fits c.args.grid.now.geo.nodata c.requires.geo.nodata in
        on_ok_weaker c.grid_write.result (λ h. Holds_join _ _ _ (little_bytes 8 (complement_of 8 c.args.grid.now.geo.nodata)) (grid_of c.args.grid.now.raster) (rw (c.nodata_bytes.ensures, to_z-of_z w64 c.args.grid.now.geo.nodata is) at c.in_ok-give_all.ensures.ok) h) c.grid_write.ensures.ok;
    err =
        let is = fits c.args.grid.now.geo.nodata c.requires.geo.nodata in
        on_err_weaker c.grid_write.result (λ h. HoldsPrefix_join _ _ _ (little_bytes 8 (complement_of 8 c.args.grid.now.geo.nodata)) (grid_of c.args.grid.now.raster) (rw (c.nodata_bytes.ensures, to_z-of_z w64 c.args.grid.now.geo.nodata is) at c.in_ok-give_all.ensures.ok) h) c.grid_write.ensures.err;
    counted = search rules;
  };
}
