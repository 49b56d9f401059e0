use Rattle.std.proofs.Common.{◌≡◌, ◌+◌, ◌-◌, ◌*◌, ◌≤◌, arith, ap, ◌∙◌, length}
use Rattle.std.proofs.Math.Nat.{mul-le-mul_right}
use Rattle.raster_cells.specs.PixelType.{bytes_of}
use Rattle.raster_cells.specs.Values.{values_bytes}
use Rattle.raster_values.specs.inside.LentCells.{cells_there}
use Rattle.raster_cells.proofs.CellRuns.{length-values_in, values_is}
use Rattle.raster_cells.proofs.ValueBytes.{are_value_bytes, value_bytes_long}
use Rattle.raster_cells.proofs.Repeats.{repeated, length-repeated, repeated_in_range, bytes_repeated}
use Rattle.raster_values.proofs.rasters.lent_cells.LentCellsCellStore.repeat_run.Goals as goal

pub place-from-requires-clause-within : goal.place-from-requires-clause-within
place-from-requires-clause-within c = omega (arith, c.requires.behind, c.requires.within, length-values_in c.args.self.now.kind c.args.self.now.count c.args.self.now.values.now)

pub place-end-requires-clause-within : goal.place-end-requires-clause-within
place-end-requires-clause-within c = omega (arith, c.requires.behind, c.requires.within, length-values_in c.args.self.now.kind c.args.self.now.count c.args.self.now.values.now)

pub place-dest-requires-clause-within : goal.place-dest-requires-clause-within
place-dest-requires-clause-within c = omega (arith, c.requires.within, length-values_in c.args.self.now.kind c.args.self.now.count c.args.self.now.values.now)

pub repeat-requires-clause-order : goal.repeat-requires-clause-order
repeat-requires-clause-order c =
    let s = bytes_of c.args.self.now.kind in
    let up : c.args.at * s ≤ (c.args.at + c.args.count) * s = mul-le-mul_right s (omega arith) in
    omega (arith, up, c.place-from.ensures.value, c.place-end.ensures.value)

pub repeat-requires-clause-behind : goal.repeat-requires-clause-behind
repeat-requires-clause-behind c =
    let s = bytes_of c.args.self.now.kind in
    let up : (c.args.at + c.args.count) * s ≤ c.args.to * s = mul-le-mul_right s c.requires.behind in
    omega (arith, up, c.place-end.ensures.value, c.place-dest.ensures.value)

pub repeat-requires-clause-within : goal.repeat-requires-clause-within
repeat-requires-clause-within c =
    let t = c.args.self.now in
    let s = bytes_of t.kind in
    let up : (c.args.to + c.args.count) * s ≤ t.count * s = mul-le-mul_right s (omega (arith, c.requires.within, length-values_in t.kind t.count t.values.now)) in
    omega (arith, up, c.place-from.ensures.value, c.place-end.ensures.value, c.place-dest.ensures.value, value_bytes_long t.kind t.count t.values.now c.args.self.now.cells)

pub returns-clause-repeated : goal.returns-clause-repeated
returns-clause-repeated c =
    let t = c.args.self.now in
    let again = repeated (cells_there t).values c.args.at c.args.to c.args.count in
    let laid : c.repeat.new.bytes ≡ values_bytes t.kind again = c.repeat.ensures
    ∙ bytes_repeated t.kind (cells_there t).values t.values.now c.args.at c.args.to c.args.count c.place-from.result c.place-dest.result (c.place-end.result - c.place-from.result) c.requires.behind c.requires.within
    t.cells.bytes_are c.place-from.ensures.value c.place-dest.ensures.value (omega (arith, c.place-end.ensures.value, c.place-from.ensures.value)) in
    let long : length again ≡ t.count = length-repeated (cells_there t).values c.args.at c.args.to c.args.count c.requires.behind c.requires.within ∙ length-values_in t.kind t.count t.values.now in
    let fits = repeated_in_range t.kind (cells_there t).values c.args.at c.args.to c.args.count c.requires.behind c.requires.within t.cells.in_range in
    ap (λ vs. record { kind = t.kind; values = vs }) (values_is t.kind t.count c.repeat.new.bytes again laid long fits)

pub invariant_of-self : goal.invariant_of-self
invariant_of-self c =
    let t = c.args.self.now in
    let again = repeated (cells_there t).values c.args.at c.args.to c.args.count in
    let laid : c.repeat.new.bytes ≡ values_bytes t.kind again = c.repeat.ensures
    ∙ bytes_repeated t.kind (cells_there t).values t.values.now c.args.at c.args.to c.args.count c.place-from.result c.place-dest.result (c.place-end.result - c.place-from.result) c.requires.behind c.requires.within
    t.cells.bytes_are c.place-from.ensures.value c.place-dest.ensures.value (omega (arith, c.place-end.ensures.value, c.place-from.ensures.value)) in
    let long : length again ≡ t.count = length-repeated (cells_there t).values c.args.at c.args.to c.args.count c.requires.behind c.requires.within ∙ length-values_in t.kind t.count t.values.now in
    let fits = repeated_in_range t.kind (cells_there t).values c.args.at c.args.to c.args.count c.requires.behind c.requires.within t.cells.in_range in
    record { cells = are_value_bytes t.kind t.count c.repeat.new.bytes again laid long fits t.cells.few }
