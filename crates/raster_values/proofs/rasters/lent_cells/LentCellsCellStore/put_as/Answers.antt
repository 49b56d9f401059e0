use Rattle.std.proofs.Common.{◌≡◌, ◌+◌, ◌*◌, ◌-◌, ◌++◌, ◌≤◌, ap, ◌∙◌, sym, take, drop, length, subst, arith, rules}
use Rattle.std.specs.Prelude.{All}
use Rattle.std.proofs.lemmas.List.{take_rest, length-drop}
use Rattle.raster_cells.specs.declared.kind.PixelType.{PixelType}
use Rattle.raster_cells.specs.PixelType.{bytes_of, InRange}
use Rattle.raster_cells.specs.Values.{values_bytes}
use Rattle.raster_values.specs.inside.LentCells.{cells_there}
use Rattle.raster_cells.proofs.CellRuns.{length-values_in, values_is, with_run, length-with_run, with_run_in_range}
use Rattle.raster_cells.proofs.GivenRuns.{given_long, given_fits, given_put}
use Rattle.raster_cells.proofs.ValueBytes.{are_value_bytes}
use Rattle.raster_values.proofs.RasterMutArrays.{run_room, run_laid}
use Rattle.raster_values.proofs.rasters.lent_cells.LentCellsCellStore.put_as.Goals as goal

pub place-from-requires-clause-within : goal.place-from-requires-clause-within
place-from-requires-clause-within g c = omega (arith, c.requires.within, length-values_in c.args.self.now.kind c.args.self.now.count c.args.self.now.values.now)

pub slice_bounds-write_as-count : goal.slice_bounds-write_as-count
slice_bounds-write_as-count g c =
    let t = c.args.self.now in
    let start : c.place-from.result ≡ c.args.at * bytes_of t.kind = c.place-from.ensures.value ∙ ap (λ (k : PixelType). c.args.at * bytes_of k) c.requires.kind in
    let room = run_room t.kind t.count c.args.at c.args.count c.place-from.result t.values.now c.args.self.now.cells c.requires.within start in
    omega (arith, room)

pub slice_bounds-write_as-start : goal.slice_bounds-write_as-start
slice_bounds-write_as-start g c =
    let t = c.args.self.now in
    let start : c.place-from.result ≡ c.args.at * bytes_of t.kind = c.place-from.ensures.value ∙ ap (λ (k : PixelType). c.args.at * bytes_of k) c.requires.kind in
    let room = run_room t.kind t.count c.args.at c.args.count c.place-from.result t.values.now c.args.self.now.cells c.requires.within start in
    let low : c.place-from.result ≤ length t.values.now = omega (arith, room) in
    search (rules, low)

pub write_as-requires-clause-in_range : goal.write_as-requires-clause-in_range
write_as-requires-clause-in_range g c = subst (λ (k : PixelType). All (InRange k) (g.G.ValueSource.listed c.args.given.now)) (sym c.requires.kind) c.requires.in_range

pub write_as-requires-clause-room : goal.write_as-requires-clause-room
write_as-requires-clause-room g c =
    let t = c.args.self.now in
    let start : c.place-from.result ≡ c.args.at * bytes_of t.kind = c.place-from.ensures.value ∙ ap (λ (k : PixelType). c.args.at * bytes_of k) c.requires.kind in
    let room = run_room t.kind t.count c.args.at c.args.count c.place-from.result t.values.now c.args.self.now.cells c.requires.within start in
    let kind : c.args.count * bytes_of c.args.kind ≡ c.args.count * bytes_of t.kind = ap (λ (k : PixelType). c.args.count * bytes_of k) c.requires.kind in
    omega (arith, room, kind, ap length (take_rest t.values.now c.place-from.result), length-drop c.place-from.result t.values.now)

pub returns-clause-put : goal.returns-clause-put
returns-clause-put g c =
    let t = c.args.self.now in
    let start : c.place-from.result ≡ c.args.at * bytes_of t.kind = c.place-from.ensures.value ∙ ap (λ (k : PixelType). c.args.at * bytes_of k) c.requires.kind in
    let run = take c.args.count (drop c.args.n (g.G.ValueSource.listed c.args.given.now)) in
    let size : length run ≡ c.args.count = given_long (g.G.ValueSource.listed c.args.given.now) c.args.n c.args.count c.requires.there in
    let old = t.values.now in
    let from = c.place-from.result in
    let within : c.args.at + length run ≤ length (cells_there t).values = omega (arith, size, c.requires.within) in
    let fits = given_fits t.kind (g.G.ValueSource.listed c.args.given.now) c.args.n c.args.count c.requires.in_range in
    let wrote : c.write_as.new.out ≡ values_bytes t.kind run ++ drop (length run * bytes_of t.kind) (take (length old - from) (drop from old)) =
    c.write_as.ensures ∙ ap (λ (k : PixelType). values_bytes k run ++ drop (c.args.count * bytes_of k) (take (length old - from) (drop from old))) c.requires.kind
    ∙ ap (λ m. values_bytes t.kind run ++ drop (m * bytes_of t.kind) (take (length old - from) (drop from old))) (sym size) in
    let laid = run_laid t.kind t.count c.args.at from run old c.write_as.new.out c.args.self.now.cells within start wrote c.write_as.auto.out in
    let long = length-with_run (cells_there t).values run c.args.at within ∙ length-values_in t.kind t.count old in
    ap (λ vs. record { kind = t.kind; values = vs })
    (values_is t.kind t.count _ (with_run (cells_there t).values c.args.at run) laid long (with_run_in_range t.kind (cells_there t).values run c.args.at c.args.self.now.cells.in_range fits)
    ∙ given_put (cells_there t).values (g.G.ValueSource.listed c.args.given.now) c.args.at c.args.n c.args.count c.requires.there)

pub invariant_of-self : goal.invariant_of-self
invariant_of-self g c =
    let t = c.args.self.now in
    let start : c.place-from.result ≡ c.args.at * bytes_of t.kind = c.place-from.ensures.value ∙ ap (λ (k : PixelType). c.args.at * bytes_of k) c.requires.kind in
    let run = take c.args.count (drop c.args.n (g.G.ValueSource.listed c.args.given.now)) in
    let size : length run ≡ c.args.count = given_long (g.G.ValueSource.listed c.args.given.now) c.args.n c.args.count c.requires.there in
    let old = t.values.now in
    let from = c.place-from.result in
    let within : c.args.at + length run ≤ length (cells_there t).values = omega (arith, size, c.requires.within) in
    let fits = given_fits t.kind (g.G.ValueSource.listed c.args.given.now) c.args.n c.args.count c.requires.in_range in
    let wrote : c.write_as.new.out ≡ values_bytes t.kind run ++ drop (length run * bytes_of t.kind) (take (length old - from) (drop from old)) =
    c.write_as.ensures ∙ ap (λ (k : PixelType). values_bytes k run ++ drop (c.args.count * bytes_of k) (take (length old - from) (drop from old))) c.requires.kind
    ∙ ap (λ m. values_bytes t.kind run ++ drop (m * bytes_of t.kind) (take (length old - from) (drop from old))) (sym size) in
    let laid = run_laid t.kind t.count c.args.at from run old c.write_as.new.out c.args.self.now.cells within start wrote c.write_as.auto.out in
    let long = length-with_run (cells_there t).values run c.args.at within ∙ length-values_in t.kind t.count old in
    record { cells = are_value_bytes t.kind t.count _ (with_run (cells_there t).values c.args.at run) laid long (with_run_in_range t.kind (cells_there t).values run c.args.at c.args.self.now.cells.in_range fits) c.args.self.now.cells.few }
