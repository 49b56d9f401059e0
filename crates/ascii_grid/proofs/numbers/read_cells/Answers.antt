use Rattle.std.proofs.Common.{◌≡◌, ◌∙◌, ◌+◌, ◌*◌, ◌++◌, ◌∷◌, [], refl, ap, arith, List, w64, to_z, of_z}
use Rattle.std.proofs.lemmas.Int.{to_z-of_z}
use Rattle.std.proofs.lemmas.Result.{err_from_is_err_and}
use Rattle.raster_values.specs.Raster.{Pixels}
use Rattle.std.proofs.lemmas.List.Elements.{All-nil}
use Rattle.ascii_grid.specs.Canon.{IsApart}
use Rattle.ascii_grid.specs.Tokens.{TokenAt}
use Rattle.ascii_grid.proofs.CellSteps.{Progress, begun_blank, cell_step, cells_done, number_bad, number_end, number_last, number_over, fair_all, fair_step, some_area, token_short}
use Rattle.ascii_grid.proofs.numbers.read_cells.Goals as goal

pub loop-done-init : goal.loop-done-init
loop-done-init g c =
    let r = c.args.raster.now in
    let area : c.rows.result * c.cols.result ≡ r.rows * r.cols = λ i. c.rows.ensures.value i * c.cols.ensures.value i in
    record {
      faults = refl;
      count = area;
      below = omega (arith, area, some_area r.rows r.cols c.rows.ensures.sound.shape.rows_above c.rows.ensures.sound.shape.cols_above);
      shape = refl;
      fair = ([], (refl, (begun_blank r (ap (λ (x : Pixels). x.pixels) c.requires), All-nil (IsApart (to_z w64 (of_z w64 c.args.nodata))))));
      so_far = λ total rest left. ([], (rest, ([], (refl, (tt, (begun_blank r (ap (λ (x : Pixels). x.pixels) c.requires), (refl, left)))))));
    }

pub returns-in_err-take_cell-clause-read : goal.returns-in_err-take_cell-clause-read
returns-in_err-take_cell-clause-read g c = λ total rest left.
    let inv = c.loop-done.invariant in
    let so = rw (to_z-of_z w64 c.args.nodata c.ranges.nodata) at (inv.so_far total rest left) in
    let p = err_from_is_err_and c.from_residual.result c.from_residual.ensures.1 in
    rw (p.1, p.2) (number_bad total c.loop-done.done c.args.nodata (c.args.first ∷ rest) so.0 so.1.0 c.loop-done.token c.args.raster.now c.loop-done.raster c.take_cell.new.raster so.1.1.0 c.in_err-take_cell.field-0.0
    so.1.1.1.1.1.1.0 so.1.1.1.0 (omega (arith, inv.below, inv.count)) (ap (λ (x : Pixels). x.kind) inv.shape) so.1.1.1.1.0 (rw (to_z-of_z w64 c.args.nodata c.ranges.nodata) at c.in_err-take_cell.ensures.taken))

pub returns-in_err-token-clause-read : goal.returns-in_err-token-clause-read
returns-in_err-token-clause-read g c = λ total rest left.
    let inv = c.loop-done.invariant in
    let so = rw (to_z-of_z w64 c.args.nodata c.ranges.nodata) at (inv.so_far total rest left) in
    let p = err_from_is_err_and c.from_residual-in_err-token.result c.from_residual-in_err-token.ensures.1 in
    let far : Progress c.args.raster.now c.loop-done.raster c.args.nodata (c.args.first ∷ rest) c.loop-done.done so.0 so.1.1.0 (c.loop-done.token ∷ so.1.0) = record { size = so.1.1.1.0; are = so.1.1.1.1.0; begun = so.1.1.1.1.1.0; joined = so.1.1.1.1.1.1.0 } in
    let on = cell_step c.args.raster.now c.loop-done.raster c.take_cell.new.raster c.args.nodata (c.args.first ∷ rest) so.0 so.1.0 c.loop-done.token so.1.1.0 c.loop-done.done far (ap (λ (x : Pixels). x.kind) inv.shape) (rw (to_z-of_z w64 c.args.nodata c.ranges.nodata) at c.in_ok-take_cell.ensures.taken) in
    let few = token_short c.args.nodata c.loop-done.token c.loop-done.raster c.take_cell.new.raster c.loop-done.done (rw (to_z-of_z w64 c.args.nodata c.ranges.nodata) at c.in_ok-take_cell.ensures.taken) in
    rw (p.1, p.2) (number_end _ c.demand.new.window total (c.loop-done.done + 1) c.args.nodata (c.args.first ∷ rest) (so.0 ++ c.loop-done.token ∷ []) so.1.0 c.args.raster.now c.take_cell.new.raster (so.1.1.0 ++ on.0 ∷ []) c.in_err-token.field-0.0
    on.1.joined on.1.size (omega (arith, inv.below, inv.count, c.if-done-count.false)) on.1.are (c.in_err-token.ensures.next total so.1.0 (so.1.1.1.1.1.1.1 few)))

pub loop-done-preserved : goal.loop-done-preserved
loop-done-preserved g c =
    let inv = c.loop-done.invariant in
    record {
      faults = c.in_ok-token.ensures.counted ∙ inv.faults;
      count = inv.count;
      below = omega (arith, inv.below, c.if-done-count.false);
      shape = c.in_ok-take_cell.ensures.shape ∙ ap (λ (r : Pixels). record r { pixels = c.take_cell.new.raster.pixels }) inv.shape;
      fair = fair_step (to_z w64 (of_z w64 c.args.nodata)) c.loop-done.token c.args.raster.now c.loop-done.raster c.take_cell.new.raster c.loop-done.done inv.fair c.in_ok-take_cell.ensures.taken;
      so_far = λ total rest left.
          let so = rw (to_z-of_z w64 c.args.nodata c.ranges.nodata) at (inv.so_far total rest left) in
          let far : Progress c.args.raster.now c.loop-done.raster c.args.nodata (c.args.first ∷ rest) c.loop-done.done so.0 so.1.1.0 (c.loop-done.token ∷ so.1.0) = record { size = so.1.1.1.0; are = so.1.1.1.1.0; begun = so.1.1.1.1.1.0; joined = so.1.1.1.1.1.1.0 } in
          let on = cell_step c.args.raster.now c.loop-done.raster c.take_cell.new.raster c.args.nodata (c.args.first ∷ rest) so.0 so.1.0 c.loop-done.token so.1.1.0 c.loop-done.done far (ap (λ (x : Pixels). x.kind) inv.shape) (rw (to_z-of_z w64 c.args.nodata c.ranges.nodata) at c.in_ok-take_cell.ensures.taken) in
          let few = token_short c.args.nodata c.loop-done.token c.loop-done.raster c.take_cell.new.raster c.loop-done.done (rw (to_z-of_z w64 c.args.nodata c.ranges.nodata) at c.in_ok-take_cell.ensures.taken) in
          let next = c.in_ok-token.ensures.next total so.1.0 (so.1.1.1.1.1.1.1 few) in
          rw (to_z-of_z w64 c.args.nodata c.ranges.nodata) (
            so.0 ++ c.loop-done.token ∷ [],
            (
              next.0,
              (
                so.1.1.0 ++ on.0 ∷ [],
                (
                  on.1.size,
                  (
                    on.1.are,
                    (
                      on.1.begun,
                      (on.1.joined ∙ ap (λ (l : List TokenAt). (so.0 ++ c.loop-done.token ∷ []) ++ l) next.1.0, next.1.1),
                    ),
                  ),
                ),
              ),
            ),
          );
    }

pub returns-in_err-token-2-clause-read : goal.returns-in_err-token-2-clause-read
returns-in_err-token-2-clause-read g c = λ total rest left.
    let inv = c.loop-done.invariant in
    let so = rw (to_z-of_z w64 c.args.nodata c.ranges.nodata) at (inv.so_far total rest left) in
    let p = err_from_is_err_and c.from_residual-in_err-token-2.result c.from_residual-in_err-token-2.ensures.1 in
    let far : Progress c.args.raster.now c.loop-done.raster c.args.nodata (c.args.first ∷ rest) c.loop-done.done so.0 so.1.1.0 (c.loop-done.token ∷ so.1.0) = record { size = so.1.1.1.0; are = so.1.1.1.1.0; begun = so.1.1.1.1.1.0; joined = so.1.1.1.1.1.1.0 } in
    let on = cell_step c.args.raster.now c.loop-done.raster c.take_cell.new.raster c.args.nodata (c.args.first ∷ rest) so.0 so.1.0 c.loop-done.token so.1.1.0 c.loop-done.done far (ap (λ (x : Pixels). x.kind) inv.shape) (rw (to_z-of_z w64 c.args.nodata c.ranges.nodata) at c.in_ok-take_cell.ensures.taken) in
    let few = token_short c.args.nodata c.loop-done.token c.loop-done.raster c.take_cell.new.raster c.loop-done.done (rw (to_z-of_z w64 c.args.nodata c.ranges.nodata) at c.in_ok-take_cell.ensures.taken) in
    rw (p.1, p.2) (number_last _ c.next_token.new.window total (c.loop-done.done + 1) c.args.nodata (c.args.first ∷ rest) (so.0 ++ c.loop-done.token ∷ []) so.1.0 c.args.raster.now c.take_cell.new.raster (so.1.1.0 ++ on.0 ∷ []) c.in_err-token-2.field-0.0
    on.1.joined on.1.size (c.if-done-count.true ∙ inv.count) on.1.are (c.in_err-token-2.ensures.next total so.1.0 (so.1.1.1.1.1.1.1 few)))

pub returns-in-Some-clause-read : goal.returns-in-Some-clause-read
returns-in-Some-clause-read g c = λ total rest left.
    let inv = c.loop-done.invariant in
    let so = rw (to_z-of_z w64 c.args.nodata c.ranges.nodata) at (inv.so_far total rest left) in
    let far : Progress c.args.raster.now c.loop-done.raster c.args.nodata (c.args.first ∷ rest) c.loop-done.done so.0 so.1.1.0 (c.loop-done.token ∷ so.1.0) = record { size = so.1.1.1.0; are = so.1.1.1.1.0; begun = so.1.1.1.1.1.0; joined = so.1.1.1.1.1.1.0 } in
    let on = cell_step c.args.raster.now c.loop-done.raster c.take_cell.new.raster c.args.nodata (c.args.first ∷ rest) so.0 so.1.0 c.loop-done.token so.1.1.0 c.loop-done.done far (ap (λ (x : Pixels). x.kind) inv.shape) (rw (to_z-of_z w64 c.args.nodata c.ranges.nodata) at c.in_ok-take_cell.ensures.taken) in
    let few = token_short c.args.nodata c.loop-done.token c.loop-done.raster c.take_cell.new.raster c.loop-done.done (rw (to_z-of_z w64 c.args.nodata c.ranges.nodata) at c.in_ok-take_cell.ensures.taken) in
    let told = rw c.in-Some.is at (c.in_ok-token-2.ensures.next total so.1.0 (so.1.1.1.1.1.1.1 few)) in
    number_over _ c.next_token.new.window total (c.loop-done.done + 1) c.args.nodata (c.args.first ∷ rest) (so.0 ++ c.loop-done.token ∷ []) so.1.0 c.in-Some.token c.args.raster.now c.take_cell.new.raster (so.1.1.0 ++ on.0 ∷ []) c.stop.result
    on.1.joined on.1.size (c.if-done-count.true ∙ inv.count) on.1.are told (rw c.place.ensures at c.stop.ensures)

pub returns-in-None-clause-read : goal.returns-in-None-clause-read
returns-in-None-clause-read g c = λ total rest left.
    let inv = c.loop-done.invariant in
    let so = rw (to_z-of_z w64 c.args.nodata c.ranges.nodata) at (inv.so_far total rest left) in
    let far : Progress c.args.raster.now c.loop-done.raster c.args.nodata (c.args.first ∷ rest) c.loop-done.done so.0 so.1.1.0 (c.loop-done.token ∷ so.1.0) = record { size = so.1.1.1.0; are = so.1.1.1.1.0; begun = so.1.1.1.1.1.0; joined = so.1.1.1.1.1.1.0 } in
    let on = cell_step c.args.raster.now c.loop-done.raster c.take_cell.new.raster c.args.nodata (c.args.first ∷ rest) so.0 so.1.0 c.loop-done.token so.1.1.0 c.loop-done.done far (ap (λ (x : Pixels). x.kind) inv.shape) (rw (to_z-of_z w64 c.args.nodata c.ranges.nodata) at c.in_ok-take_cell.ensures.taken) in
    let few = token_short c.args.nodata c.loop-done.token c.loop-done.raster c.take_cell.new.raster c.loop-done.done (rw (to_z-of_z w64 c.args.nodata c.ranges.nodata) at c.in_ok-take_cell.ensures.taken) in
    let told = rw c.in-None.is at (c.in_ok-token-2.ensures.next total so.1.0 (so.1.1.1.1.1.1.1 few)) in
    cells_done _ c.next_token.new.window total (c.loop-done.done + 1) c.args.nodata (c.args.first ∷ rest) (so.0 ++ c.loop-done.token ∷ []) so.1.0 c.args.raster.now c.take_cell.new.raster (so.1.1.0 ++ on.0 ∷ [])
    on.1.joined on.1.size (c.if-done-count.true ∙ inv.count) on.1.are on.1.begun told

pub returns-in-None-clause-apart : goal.returns-in-None-clause-apart
returns-in-None-clause-apart g c =
    let inv = c.loop-done.invariant in
    let step = fair_step (to_z w64 (of_z w64 c.args.nodata)) c.loop-done.token c.args.raster.now c.loop-done.raster c.take_cell.new.raster c.loop-done.done inv.fair c.in_ok-take_cell.ensures.taken in
    rw (to_z-of_z w64 c.args.nodata c.ranges.nodata) at (fair_all (to_z w64 (of_z w64 c.args.nodata)) c.args.raster.now c.take_cell.new.raster (c.loop-done.done + 1) step (c.if-done-count.true ∙ inv.count))
