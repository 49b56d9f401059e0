use Rattle.std.proofs.Common.{◌++◌, decimal, w64, rules}
use Rattle.std.proofs.lemmas.Int.{to_z-of_z}
use Rattle.std.proofs.lemmas.Result.{IfOk-from_err, on_ok_weaker, on_err_weaker}
use Rattle.std.specs.Fmt.{signed_decimal}
use Rattle.ascii_grid.specs.declared.words.Key.TheVariants.{Cols, Rows, Cell, Nodata}
use Rattle.ascii_grid.specs.Canon.{line, x_key, y_key}
use Rattle.ascii_grid.proofs.PageSteps.{breaks_first, breaks_later, fits, on_err, waits_join}
use Rattle.ascii_grid.proofs.canon.write_head.Goals as goal

pub returns-in_err-size_line : goal.returns-in_err-size_line
returns-in_err-size_line g c = record {
  adds = record {
    ok = IfOk-from_err c.from_residual.result _ c.from_residual.ensures.0;
    err =
        on_err c.from_residual.result (breaks_first (g.K.Sink.held c.args.sink.now) (g.K.Sink.held c.size_line.new.sink) c.args.page.now (line Cols (decimal c.args.grid.now.raster.cols)) ((line Rows (decimal c.args.grid.now.raster.rows)) ++ ((line (x_key c.args.grid.now.geo.x_centre) c.args.grid.now.geo.x) ++ ((line (y_key c.args.grid.now.geo.y_centre) c.args.grid.now.geo.y) ++ ((line Cell c.args.grid.now.geo.cell) ++ (line Nodata (signed_decimal c.args.grid.now.geo.nodata)))))) (rw c.cols.ensures.value at c.in_err-size_line.ensures.adds.err));
    counted = search rules;
  };
}

pub returns-in_err-size_line-2 : goal.returns-in_err-size_line-2
returns-in_err-size_line-2 g c = record {
  adds = record {
    ok = IfOk-from_err c.from_residual-in_err-size_line-2.result _ c.from_residual-in_err-size_line-2.ensures.0;
    err =
        on_err c.from_residual-in_err-size_line-2.result (breaks_later (g.K.Sink.held c.args.sink.now) (g.K.Sink.held c.size_line.new.sink) (g.K.Sink.held c.size_line-2.new.sink) c.args.page.now c.size_line.new.page (line Cols (decimal c.args.grid.now.raster.cols)) ((line Rows (decimal c.args.grid.now.raster.rows)) ++ ((line (x_key c.args.grid.now.geo.x_centre) c.args.grid.now.geo.x) ++ ((line (y_key c.args.grid.now.geo.y_centre) c.args.grid.now.geo.y) ++ ((line Cell c.args.grid.now.geo.cell) ++ (line Nodata (signed_decimal c.args.grid.now.geo.nodata))))))
        (rw c.cols.ensures.value at c.in_ok-size_line.ensures.adds.ok) (breaks_first (g.K.Sink.held c.size_line.new.sink) (g.K.Sink.held c.size_line-2.new.sink) c.size_line.new.page (line Rows (decimal c.args.grid.now.raster.rows)) ((line (x_key c.args.grid.now.geo.x_centre) c.args.grid.now.geo.x) ++ ((line (y_key c.args.grid.now.geo.y_centre) c.args.grid.now.geo.y) ++ ((line Cell c.args.grid.now.geo.cell) ++ (line Nodata (signed_decimal c.args.grid.now.geo.nodata))))) (rw c.rows.ensures.value at c.in_err-size_line-2.ensures.adds.err)));
    counted = search rules;
  };
}

pub returns-in_err-text_line : goal.returns-in_err-text_line
returns-in_err-text_line g c = record {
  adds = record {
    ok = IfOk-from_err c.from_residual-in_err-text_line.result _ c.from_residual-in_err-text_line.ensures.0;
    err =
        on_err c.from_residual-in_err-text_line.result (breaks_later (g.K.Sink.held c.args.sink.now) (g.K.Sink.held c.size_line.new.sink) (g.K.Sink.held c.text_line.new.sink) c.args.page.now c.size_line.new.page (line Cols (decimal c.args.grid.now.raster.cols)) ((line Rows (decimal c.args.grid.now.raster.rows)) ++ ((line (x_key c.args.grid.now.geo.x_centre) c.args.grid.now.geo.x) ++ ((line (y_key c.args.grid.now.geo.y_centre) c.args.grid.now.geo.y) ++ ((line Cell c.args.grid.now.geo.cell) ++ (line Nodata (signed_decimal c.args.grid.now.geo.nodata))))))
        (rw c.cols.ensures.value at c.in_ok-size_line.ensures.adds.ok) (breaks_later (g.K.Sink.held c.size_line.new.sink) (g.K.Sink.held c.size_line-2.new.sink) (g.K.Sink.held c.text_line.new.sink) c.size_line.new.page c.size_line-2.new.page (line Rows (decimal c.args.grid.now.raster.rows)) ((line (x_key c.args.grid.now.geo.x_centre) c.args.grid.now.geo.x) ++ ((line (y_key c.args.grid.now.geo.y_centre) c.args.grid.now.geo.y) ++ ((line Cell c.args.grid.now.geo.cell) ++ (line Nodata (signed_decimal c.args.grid.now.geo.nodata)))))
        (rw c.rows.ensures.value at c.in_ok-size_line-2.ensures.adds.ok) (breaks_first (g.K.Sink.held c.size_line-2.new.sink) (g.K.Sink.held c.text_line.new.sink) c.size_line-2.new.page (line (x_key c.args.grid.now.geo.x_centre) c.args.grid.now.geo.x) ((line (y_key c.args.grid.now.geo.y_centre) c.args.grid.now.geo.y) ++ ((line Cell c.args.grid.now.geo.cell) ++ (line Nodata (signed_decimal c.args.grid.now.geo.nodata)))) (rw (c.x_name.ensures, c.as_slice.ensures) at c.in_err-text_line.ensures.adds.err))));
    counted = search rules;
  };
}

pub returns-in_err-text_line-2 : goal.returns-in_err-text_line-2
returns-in_err-text_line-2 g c = record {
  adds = record {
    ok = IfOk-from_err c.from_residual-in_err-text_line-2.result _ c.from_residual-in_err-text_line-2.ensures.0;
    err =
        on_err c.from_residual-in_err-text_line-2.result (breaks_later (g.K.Sink.held c.args.sink.now) (g.K.Sink.held c.size_line.new.sink) (g.K.Sink.held c.text_line-2.new.sink) c.args.page.now c.size_line.new.page (line Cols (decimal c.args.grid.now.raster.cols)) ((line Rows (decimal c.args.grid.now.raster.rows)) ++ ((line (x_key c.args.grid.now.geo.x_centre) c.args.grid.now.geo.x) ++ ((line (y_key c.args.grid.now.geo.y_centre) c.args.grid.now.geo.y) ++ ((line Cell c.args.grid.now.geo.cell) ++ (line Nodata (signed_decimal c.args.grid.now.geo.nodata))))))
        (rw c.cols.ensures.value at c.in_ok-size_line.ensures.adds.ok) (breaks_later (g.K.Sink.held c.size_line.new.sink) (g.K.Sink.held c.size_line-2.new.sink) (g.K.Sink.held c.text_line-2.new.sink) c.size_line.new.page c.size_line-2.new.page (line Rows (decimal c.args.grid.now.raster.rows)) ((line (x_key c.args.grid.now.geo.x_centre) c.args.grid.now.geo.x) ++ ((line (y_key c.args.grid.now.geo.y_centre) c.args.grid.now.geo.y) ++ ((line Cell c.args.grid.now.geo.cell) ++ (line Nodata (signed_decimal c.args.grid.now.geo.nodata)))))
        (rw c.rows.ensures.value at c.in_ok-size_line-2.ensures.adds.ok) (breaks_later (g.K.Sink.held c.size_line-2.new.sink) (g.K.Sink.held c.text_line.new.sink) (g.K.Sink.held c.text_line-2.new.sink) c.size_line-2.new.page c.text_line.new.page (line (x_key c.args.grid.now.geo.x_centre) c.args.grid.now.geo.x) ((line (y_key c.args.grid.now.geo.y_centre) c.args.grid.now.geo.y) ++ ((line Cell c.args.grid.now.geo.cell) ++ (line Nodata (signed_decimal c.args.grid.now.geo.nodata))))
        (rw (c.x_name.ensures, c.as_slice.ensures) at c.in_ok-text_line.ensures.adds.ok) (breaks_first (g.K.Sink.held c.text_line.new.sink) (g.K.Sink.held c.text_line-2.new.sink) c.text_line.new.page (line (y_key c.args.grid.now.geo.y_centre) c.args.grid.now.geo.y) ((line Cell c.args.grid.now.geo.cell) ++ (line Nodata (signed_decimal c.args.grid.now.geo.nodata))) (rw (c.y_name.ensures, c.as_slice-2.ensures) at c.in_err-text_line-2.ensures.adds.err)))));
    counted = search rules;
  };
}

pub returns-in_err-text_line-3 : goal.returns-in_err-text_line-3
returns-in_err-text_line-3 g c = record {
  adds = record {
    ok = IfOk-from_err c.from_residual-in_err-text_line-3.result _ c.from_residual-in_err-text_line-3.ensures.0;
    err =
        on_err c.from_residual-in_err-text_line-3.result (breaks_later (g.K.Sink.held c.args.sink.now) (g.K.Sink.held c.size_line.new.sink) (g.K.Sink.held c.text_line-3.new.sink) c.args.page.now c.size_line.new.page (line Cols (decimal c.args.grid.now.raster.cols)) ((line Rows (decimal c.args.grid.now.raster.rows)) ++ ((line (x_key c.args.grid.now.geo.x_centre) c.args.grid.now.geo.x) ++ ((line (y_key c.args.grid.now.geo.y_centre) c.args.grid.now.geo.y) ++ ((line Cell c.args.grid.now.geo.cell) ++ (line Nodata (signed_decimal c.args.grid.now.geo.nodata))))))
        (rw c.cols.ensures.value at c.in_ok-size_line.ensures.adds.ok) (breaks_later (g.K.Sink.held c.size_line.new.sink) (g.K.Sink.held c.size_line-2.new.sink) (g.K.Sink.held c.text_line-3.new.sink) c.size_line.new.page c.size_line-2.new.page (line Rows (decimal c.args.grid.now.raster.rows)) ((line (x_key c.args.grid.now.geo.x_centre) c.args.grid.now.geo.x) ++ ((line (y_key c.args.grid.now.geo.y_centre) c.args.grid.now.geo.y) ++ ((line Cell c.args.grid.now.geo.cell) ++ (line Nodata (signed_decimal c.args.grid.now.geo.nodata)))))
        (rw c.rows.ensures.value at c.in_ok-size_line-2.ensures.adds.ok) (breaks_later (g.K.Sink.held c.size_line-2.new.sink) (g.K.Sink.held c.text_line.new.sink) (g.K.Sink.held c.text_line-3.new.sink) c.size_line-2.new.page c.text_line.new.page (line (x_key c.args.grid.now.geo.x_centre) c.args.grid.now.geo.x) ((line (y_key c.args.grid.now.geo.y_centre) c.args.grid.now.geo.y) ++ ((line Cell c.args.grid.now.geo.cell) ++ (line Nodata (signed_decimal c.args.grid.now.geo.nodata))))
        (rw (c.x_name.ensures, c.as_slice.ensures) at c.in_ok-text_line.ensures.adds.ok) (breaks_later (g.K.Sink.held c.text_line.new.sink) (g.K.Sink.held c.text_line-2.new.sink) (g.K.Sink.held c.text_line-3.new.sink) c.text_line.new.page c.text_line-2.new.page (line (y_key c.args.grid.now.geo.y_centre) c.args.grid.now.geo.y) ((line Cell c.args.grid.now.geo.cell) ++ (line Nodata (signed_decimal c.args.grid.now.geo.nodata)))
        (rw (c.y_name.ensures, c.as_slice-2.ensures) at c.in_ok-text_line-2.ensures.adds.ok) (breaks_first (g.K.Sink.held c.text_line-2.new.sink) (g.K.Sink.held c.text_line-3.new.sink) c.text_line-2.new.page (line Cell c.args.grid.now.geo.cell) (line Nodata (signed_decimal c.args.grid.now.geo.nodata)) (rw c.as_slice-3.ensures at c.in_err-text_line-3.ensures.adds.err))))));
    counted = search rules;
  };
}

pub returns : goal.returns
returns g c = record {
  adds = record {
    ok =
        on_ok_weaker c.number_line.result (λ h. (waits_join (g.K.Sink.held c.args.sink.now) (g.K.Sink.held c.size_line.new.sink) (g.K.Sink.held c.number_line.new.sink) c.args.page.now c.size_line.new.page c.number_line.new.page (line Cols (decimal c.args.grid.now.raster.cols)) ((line Rows (decimal c.args.grid.now.raster.rows)) ++ ((line (x_key c.args.grid.now.geo.x_centre) c.args.grid.now.geo.x) ++ ((line (y_key c.args.grid.now.geo.y_centre) c.args.grid.now.geo.y) ++ ((line Cell c.args.grid.now.geo.cell) ++ (line Nodata (signed_decimal c.args.grid.now.geo.nodata))))))
        (rw c.cols.ensures.value at c.in_ok-size_line.ensures.adds.ok) (waits_join (g.K.Sink.held c.size_line.new.sink) (g.K.Sink.held c.size_line-2.new.sink) (g.K.Sink.held c.number_line.new.sink) c.size_line.new.page c.size_line-2.new.page c.number_line.new.page (line Rows (decimal c.args.grid.now.raster.rows)) ((line (x_key c.args.grid.now.geo.x_centre) c.args.grid.now.geo.x) ++ ((line (y_key c.args.grid.now.geo.y_centre) c.args.grid.now.geo.y) ++ ((line Cell c.args.grid.now.geo.cell) ++ (line Nodata (signed_decimal c.args.grid.now.geo.nodata)))))
        (rw c.rows.ensures.value at c.in_ok-size_line-2.ensures.adds.ok) (waits_join (g.K.Sink.held c.size_line-2.new.sink) (g.K.Sink.held c.text_line.new.sink) (g.K.Sink.held c.number_line.new.sink) c.size_line-2.new.page c.text_line.new.page c.number_line.new.page (line (x_key c.args.grid.now.geo.x_centre) c.args.grid.now.geo.x) ((line (y_key c.args.grid.now.geo.y_centre) c.args.grid.now.geo.y) ++ ((line Cell c.args.grid.now.geo.cell) ++ (line Nodata (signed_decimal c.args.grid.now.geo.nodata))))
        (rw (c.x_name.ensures, c.as_slice.ensures) at c.in_ok-text_line.ensures.adds.ok) (waits_join (g.K.Sink.held c.text_line.new.sink) (g.K.Sink.held c.text_line-2.new.sink) (g.K.Sink.held c.number_line.new.sink) c.text_line.new.page c.text_line-2.new.page c.number_line.new.page (line (y_key c.args.grid.now.geo.y_centre) c.args.grid.now.geo.y) ((line Cell c.args.grid.now.geo.cell) ++ (line Nodata (signed_decimal c.args.grid.now.geo.nodata)))
        (rw (c.y_name.ensures, c.as_slice-2.ensures) at c.in_ok-text_line-2.ensures.adds.ok) (waits_join (g.K.Sink.held c.text_line-2.new.sink) (g.K.Sink.held c.text_line-3.new.sink) (g.K.Sink.held c.number_line.new.sink) c.text_line-2.new.page c.text_line-3.new.page c.number_line.new.page (line Cell c.args.grid.now.geo.cell) (line Nodata (signed_decimal c.args.grid.now.geo.nodata))
        (rw c.as_slice-3.ensures at c.in_ok-text_line-3.ensures.adds.ok) h))))))
        (rw (to_z-of_z w64 c.args.grid.now.geo.nodata (fits c.args.grid.now.geo.nodata c.requires.geo.nodata)) at c.number_line.ensures.adds.ok);
    err =
        on_err_weaker c.number_line.result (λ h. (breaks_later (g.K.Sink.held c.args.sink.now) (g.K.Sink.held c.size_line.new.sink) (g.K.Sink.held c.number_line.new.sink) c.args.page.now c.size_line.new.page (line Cols (decimal c.args.grid.now.raster.cols)) ((line Rows (decimal c.args.grid.now.raster.rows)) ++ ((line (x_key c.args.grid.now.geo.x_centre) c.args.grid.now.geo.x) ++ ((line (y_key c.args.grid.now.geo.y_centre) c.args.grid.now.geo.y) ++ ((line Cell c.args.grid.now.geo.cell) ++ (line Nodata (signed_decimal c.args.grid.now.geo.nodata))))))
        (rw c.cols.ensures.value at c.in_ok-size_line.ensures.adds.ok) (breaks_later (g.K.Sink.held c.size_line.new.sink) (g.K.Sink.held c.size_line-2.new.sink) (g.K.Sink.held c.number_line.new.sink) c.size_line.new.page c.size_line-2.new.page (line Rows (decimal c.args.grid.now.raster.rows)) ((line (x_key c.args.grid.now.geo.x_centre) c.args.grid.now.geo.x) ++ ((line (y_key c.args.grid.now.geo.y_centre) c.args.grid.now.geo.y) ++ ((line Cell c.args.grid.now.geo.cell) ++ (line Nodata (signed_decimal c.args.grid.now.geo.nodata)))))
        (rw c.rows.ensures.value at c.in_ok-size_line-2.ensures.adds.ok) (breaks_later (g.K.Sink.held c.size_line-2.new.sink) (g.K.Sink.held c.text_line.new.sink) (g.K.Sink.held c.number_line.new.sink) c.size_line-2.new.page c.text_line.new.page (line (x_key c.args.grid.now.geo.x_centre) c.args.grid.now.geo.x) ((line (y_key c.args.grid.now.geo.y_centre) c.args.grid.now.geo.y) ++ ((line Cell c.args.grid.now.geo.cell) ++ (line Nodata (signed_decimal c.args.grid.now.geo.nodata))))
        (rw (c.x_name.ensures, c.as_slice.ensures) at c.in_ok-text_line.ensures.adds.ok) (breaks_later (g.K.Sink.held c.text_line.new.sink) (g.K.Sink.held c.text_line-2.new.sink) (g.K.Sink.held c.number_line.new.sink) c.text_line.new.page c.text_line-2.new.page (line (y_key c.args.grid.now.geo.y_centre) c.args.grid.now.geo.y) ((line Cell c.args.grid.now.geo.cell) ++ (line Nodata (signed_decimal c.args.grid.now.geo.nodata)))
        (rw (c.y_name.ensures, c.as_slice-2.ensures) at c.in_ok-text_line-2.ensures.adds.ok) (breaks_later (g.K.Sink.held c.text_line-2.new.sink) (g.K.Sink.held c.text_line-3.new.sink) (g.K.Sink.held c.number_line.new.sink) c.text_line-2.new.page c.text_line-3.new.page (line Cell c.args.grid.now.geo.cell) (line Nodata (signed_decimal c.args.grid.now.geo.nodata))
        (rw c.as_slice-3.ensures at c.in_ok-text_line-3.ensures.adds.ok) h))))))
        (rw (to_z-of_z w64 c.args.grid.now.geo.nodata (fits c.args.grid.now.geo.nodata c.requires.geo.nodata)) at c.number_line.ensures.adds.err);
    counted = search rules;
  };
}
