use Rattle.std.proofs.Common.{◌≡◌, ◌<◌, ◌+◌, ◌*◌, ◌++◌, ap, sym, ◌∙◌, subst, length, take, drop, get_or, set, arith, refl}
use Rattle.std.specs.Prelude.{All, pos}
use Rattle.std.proofs.lemmas.List.{length-set}
use Rattle.std.proofs.lemmas.List.Elements.{All-set}
use Rattle.raster_cells.specs.PixelType.{InRange}
use Rattle.raster_cells.specs.CellList.{CellList}
use Rattle.raster_cells.specs.Ordered.{PutsPixels}
use Rattle.raster_cells.proofs.CellRuns.{one_put}
use Rattle.raster_cells.proofs.GivenRuns.{given_long, given_fits, given_one}
use Rattle.raster_cells.proofs.PixelSteps.{pixel_room, pixels_more}
use Rattle.raster_cells.proofs.values.cell_store.put_steps_as.Goals as goal

pub loop-i-preserved : goal.loop-i-preserved
loop-i-preserved g c =
    let i = c.loop-i.i in
    let at = (c.args.pixels.first + i) * c.args.pixels.depth + c.args.pixels.d in
    let kind = (g.V.CellStore.cells c.args.cells.now).kind in
    let listed = g.G.ValueSource.listed c.args.given.now in
    let input = take c.args.count (drop c.args.n listed) in
    let old = (g.V.CellStore.cells c.loop-i.cells).values in
    let new = (g.V.CellStore.cells c.put_as.new.self).values in
    let x = get_or input i (pos 0) in
    let fits : InRange kind x = given_fits kind listed c.args.n c.args.count c.requires.in_range i (pos 0) (omega (arith, c.loop-i-test.true, given_long listed c.args.n c.args.count c.requires.there)) in
    let inside : at < length old = omega (arith, (pixel_room c.args.pixels.first c.loop-i-test.true c.args.pixels.below c.requires.within).0, c.loop-i.invariant.form.size) in
    let is : new ≡ set old at x = ap (λ (l : CellList). l.values) c.put_as.ensures.put ∙ ap (λ run. take at old ++ (run ++ drop (at + 1) old)) (given_one listed c.args.n i c.args.count c.loop-i-test.true c.requires.there) ∙ one_put old at x inside in
    record {
      form = record {
        kind = ap (λ (l : CellList). l.kind) c.put_as.ensures.put ∙ c.loop-i.invariant.form.kind;
        in_range = λ before. subst (All (InRange kind)) (sym is) (All-set (InRange kind) old at x fits (c.loop-i.invariant.form.in_range before));
        size = ap length is ∙ length-set old at x ∙ c.loop-i.invariant.form.size;
      };
      put = subst (PutsPixels c.args.pixels.depth c.args.pixels.d c.args.pixels.first (i + 1) input (g.V.CellStore.cells c.args.cells.now).values) (sym is)
          (pixels_more c.args.pixels.depth c.args.pixels.d c.args.pixels.first i input (g.V.CellStore.cells c.args.cells.now).values old x c.args.pixels.below inside refl c.loop-i.invariant.put);
      kept = c.put_as.ensures.kept ∙ c.loop-i.invariant.kept;
    }

pub overflow_mul-pixels : goal.overflow_mul-pixels
overflow_mul-pixels g c =
    let room = pixel_room c.args.pixels.first c.loop-i-test.true c.args.pixels.below c.requires.within in
    omega (arith, room.0, c.requires.few)

pub overflow_add-pixels : goal.overflow_add-pixels
overflow_add-pixels g c =
    let room = pixel_room c.args.pixels.first c.loop-i-test.true c.args.pixels.below c.requires.within in
    omega (arith, room.1, c.requires.few)

pub overflow_add-pixels-in-loop-i : goal.overflow_add-pixels-in-loop-i
overflow_add-pixels-in-loop-i g c =
    let room = pixel_room c.args.pixels.first c.loop-i-test.true c.args.pixels.below c.requires.within in
    omega (arith, room.0, c.requires.few)

pub put_as-requires-clause-kind : goal.put_as-requires-clause-kind
put_as-requires-clause-kind g c = c.requires.kind ∙ sym c.loop-i.invariant.form.kind

pub put_as-requires-clause-there : goal.put_as-requires-clause-there
put_as-requires-clause-there g c = omega (arith, c.loop-i-test.true, c.requires.there)

pub put_as-requires-clause-within : goal.put_as-requires-clause-within
put_as-requires-clause-within g c =
    let room = pixel_room c.args.pixels.first c.loop-i-test.true c.args.pixels.below c.requires.within in
    omega (arith, room.0, c.loop-i.invariant.form.size)

pub put_as-requires-clause-in_range : goal.put_as-requires-clause-in_range
put_as-requires-clause-in_range g c = subst (λ k. All (InRange k) (g.G.ValueSource.listed c.args.given.now)) (sym c.loop-i.invariant.form.kind) c.requires.in_range
