use Rattle.std.proofs.Common.{◌≡◌, ◌≤◌, ◌+◌, ◌*◌, ap, sym, ◌∙◌, subst, length, refl, arith}
use Rattle.std.specs.Prelude.{All}
use Rattle.raster_cells.specs.PixelType.{InRange}
use Rattle.raster_cells.specs.CellList.{CellList}
use Rattle.raster_cells.specs.Ordered.{FillsPixels}
use Rattle.raster_cells.proofs.ValueBits.{pixel_fits}
use Rattle.raster_cells.proofs.CellRuns.{with_run, length-with_run, with_run_in_range}
use Rattle.raster_cells.proofs.Repeats.{repeated, length-repeated, repeated_in_range, behind, fills_one, fills_copied}
use Rattle.raster_cells.proofs.values.cell_store.fill_pixels.Goals as goal

pub overflow_mul-at : goal.overflow_mul-at
overflow_mul-at g c =
    let h = pixel_fits c.args.first (length (g.G.ValueSource.listed c.args.pixel.now)) (c.args.first + c.args.count) (omega arith) in
    omega (arith, c.requires.within, ap (λ n. c.args.first * n) c.len-depth.ensures)

pub put_all-requires-clause-within : goal.put_all-requires-clause-within
put_all-requires-clause-within g c =
    let h = pixel_fits c.args.first (length (g.G.ValueSource.listed c.args.pixel.now)) (c.args.first + c.args.count) (omega arith) in
    omega (arith, c.requires.within, ap (λ n. c.args.first * n) c.len-depth.ensures)

pub loop-done-init : goal.loop-done-init
loop-done-init g c =
    let pixel = g.G.ValueSource.listed c.args.pixel.now in
    let at = c.args.first * length pixel in
    let kind = (g.V.CellStore.cells c.args.cells.now).kind in
    let old = (g.V.CellStore.cells c.args.cells.now).values in
    let new = (g.V.CellStore.cells c.put_all.new.cells).values in
    let within : at + length pixel ≤ length old = omega (arith, pixel_fits c.args.first (length pixel) (c.args.first + c.args.count) (omega arith), c.requires.within) in
    let is : new ≡ with_run old at pixel = subst (λ n. new ≡ with_run old (c.args.first * n) pixel) c.len-depth.ensures (ap (λ (l : CellList). l.values) c.put_all.ensures.put) in
    record {
      some = omega arith;
      within = omega arith;
      form = record {
        kind = ap (λ (l : CellList). l.kind) c.put_all.ensures.put;
        in_range = λ before. subst (All (InRange kind)) (sym is) (with_run_in_range kind old pixel at before c.requires.in_range);
        size = ap length is ∙ length-with_run old pixel at within;
      };
      filled = subst (FillsPixels c.args.first 1 pixel old) (sym is) (fills_one c.args.first at pixel old refl within);
      kept = c.put_all.ensures.kept;
    }

pub overflow_mul-done : goal.overflow_mul-done
overflow_mul-done g c =
    let room = behind c.args.first c.len-depth.result c.max-span.result c.min.ensures c.min-more.ensures c.loop-done.invariant.within (subst (λ n. (c.args.first + c.args.count) * n ≤ length (g.V.CellStore.cells c.args.cells.now).values) (sym c.len-depth.ensures) c.requires.within) in
    omega (arith, room.order, room.within, c.requires.few)

pub overflow_add-at : goal.overflow_add-at
overflow_add-at g c =
    let room = behind c.args.first c.len-depth.result c.max-span.result c.min.ensures c.min-more.ensures c.loop-done.invariant.within (subst (λ n. (c.args.first + c.args.count) * n ≤ length (g.V.CellStore.cells c.args.cells.now).values) (sym c.len-depth.ensures) c.requires.within) in
    omega (arith, room.order, room.within, c.requires.few)

pub overflow_mul-more : goal.overflow_mul-more
overflow_mul-more g c =
    let room = behind c.args.first c.len-depth.result c.max-span.result c.min.ensures c.min-more.ensures c.loop-done.invariant.within (subst (λ n. (c.args.first + c.args.count) * n ≤ length (g.V.CellStore.cells c.args.cells.now).values) (sym c.len-depth.ensures) c.requires.within) in
    omega (arith, room.order, room.within, c.requires.few)

pub repeat_run-requires-clause-behind : goal.repeat_run-requires-clause-behind
repeat_run-requires-clause-behind g c =
    let room = behind c.args.first c.len-depth.result c.max-span.result c.min.ensures c.min-more.ensures c.loop-done.invariant.within (subst (λ n. (c.args.first + c.args.count) * n ≤ length (g.V.CellStore.cells c.args.cells.now).values) (sym c.len-depth.ensures) c.requires.within) in
    omega (arith, room.order, room.within, c.requires.few)

pub repeat_run-requires-clause-within : goal.repeat_run-requires-clause-within
repeat_run-requires-clause-within g c =
    let room = behind c.args.first c.len-depth.result c.max-span.result c.min.ensures c.min-more.ensures c.loop-done.invariant.within (subst (λ n. (c.args.first + c.args.count) * n ≤ length (g.V.CellStore.cells c.args.cells.now).values) (sym c.len-depth.ensures) c.requires.within) in
    omega (arith, room.within, c.loop-done.invariant.form.size)

pub loop-done-preserved : goal.loop-done-preserved
loop-done-preserved g c =
    let pixel = g.G.ValueSource.listed c.args.pixel.now in
    let n = c.loop-done.done in
    let more = c.min-more.result in
    let at = c.args.first * length pixel in
    let to = at + n * length pixel in
    let count = more * length pixel in
    let kind = (g.V.CellStore.cells c.args.cells.now).kind in
    let old = (g.V.CellStore.cells c.args.cells.now).values in
    let vs = (g.V.CellStore.cells c.loop-done.cells).values in
    let new = (g.V.CellStore.cells c.repeat_run.new.self).values in
    let room = behind c.args.first (length pixel) c.max-span.result c.min.ensures c.min-more.ensures c.loop-done.invariant.within c.requires.within in
    let before : at + count ≤ to = room.order in
    let within : to + count ≤ length vs = omega (arith, room.within, c.loop-done.invariant.form.size) in
    let is : new ≡ repeated vs at to count = subst (λ d. new ≡ repeated vs (c.args.first * d) (c.args.first * d + n * d) (more * d)) c.len-depth.ensures (ap (λ (l : CellList). l.values) c.repeat_run.ensures.repeated) in
    record {
      some = omega (arith, c.loop-done.invariant.some);
      within = room.less;
      form = record {
        kind = ap (λ (l : CellList). l.kind) c.repeat_run.ensures.repeated ∙ c.loop-done.invariant.form.kind;
        in_range = λ first. subst (All (InRange kind)) (sym is) (repeated_in_range kind vs at to count before within (c.loop-done.invariant.form.in_range first));
        size = ap length is ∙ length-repeated vs at to count before within ∙ c.loop-done.invariant.form.size;
      };
      filled = subst (FillsPixels c.args.first (n + more) pixel old) (sym is) (fills_copied c.args.first n more at to pixel old vs room.few refl refl within c.loop-done.invariant.filled);
      kept = c.repeat_run.ensures.kept ∙ c.loop-done.invariant.kept;
    }
