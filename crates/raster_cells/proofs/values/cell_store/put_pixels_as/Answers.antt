use Rattle.std.proofs.Common.{◌≡◌, ◌≤◌, ◌+◌, ◌*◌, ap, ◌∙◌, sym, subst, take, drop, length, arith}
use Rattle.std.specs.Prelude.{All}
use Rattle.raster_cells.specs.PixelType.{InRange}
use Rattle.raster_cells.specs.CellList.{CellList}
use Rattle.raster_cells.specs.Ordered.{PutsPixels}
use Rattle.raster_cells.proofs.CellRuns.{with_run, length-with_run, with_run_in_range}
use Rattle.raster_cells.proofs.GivenRuns.{given_long, given_fits, given_put}
use Rattle.raster_cells.proofs.PixelSteps.{run_puts}
use Rattle.raster_cells.proofs.values.cell_store.put_pixels_as.Goals as goal

pub put_as-requires-clause-within : goal.put_as-requires-clause-within
put_as-requires-clause-within g c =
    let all : (c.args.pixels.first + c.args.count) * c.args.pixels.depth ≡ (c.args.pixels.first + c.args.count) * 1 = ap (λ n. (c.args.pixels.first + c.args.count) * n) c.if-pixels-eq1.true in
    omega (arith, all, c.requires.within)

pub returns-then-pixels-eq1 : goal.returns-then-pixels-eq1
returns-then-pixels-eq1 g c =
    let kind = (g.V.CellStore.cells c.args.cells.now).kind in
    let vs = (g.V.CellStore.cells c.args.cells.now).values in
    let listed = g.G.ValueSource.listed c.args.given.now in
    let run = take c.args.count (drop c.args.n listed) in
    let size : length run ≡ c.args.count = given_long listed c.args.n c.args.count c.requires.there in
    let d = c.args.pixels.d in
    let one = c.if-pixels-eq1.true in
    let all : (c.args.pixels.first + c.args.count) * c.args.pixels.depth ≡ (c.args.pixels.first + c.args.count) * 1 = ap (λ n. (c.args.pixels.first + c.args.count) * n) one in
    let within : c.args.pixels.first + length run ≤ length vs = omega (arith, all, size, c.requires.within) in
    let is : (g.V.CellStore.cells c.put_as.new.self).values ≡ with_run vs c.args.pixels.first run =
    ap (λ (l : CellList). l.values) c.put_as.ensures.put ∙ sym (given_put vs listed c.args.pixels.first c.args.n c.args.count c.requires.there) in
    record {
      form = record {
        kind = ap (λ (l : CellList). l.kind) c.put_as.ensures.put;
        in_range = λ before. subst (All (InRange kind)) (sym is) (with_run_in_range kind vs run c.args.pixels.first before (given_fits kind listed c.args.n c.args.count c.requires.in_range));
        size = ap length is ∙ length-with_run vs run c.args.pixels.first within;
      };
      put = subst (λ n. PutsPixels n d c.args.pixels.first c.args.count run vs (g.V.CellStore.cells c.put_as.new.self).values) (sym one)
          (subst (PutsPixels 1 d c.args.pixels.first c.args.count run vs) (sym is)
          (subst (λ m. PutsPixels 1 d c.args.pixels.first m run vs (with_run vs c.args.pixels.first run)) size (run_puts d c.args.pixels.first run vs (omega (arith, one, c.args.pixels.below)) within)));
      kept = c.put_as.ensures.kept;
    }
