use Rattle.std.proofs.Common.{◌≡◌, ◌+◌, ◌-◌, ◌≤◌, arith, ap, ◌∙◌, sym, subst, length}
use Rattle.raster_cells.specs.Values.{values_bytes}
use Rattle.raster_cells.specs.CellList.{CellList, values_in}
use Rattle.raster_cells.specs.inside.CellView.{listed}
use Rattle.raster_cells.proofs.CellRuns.{are_cells, values_is}
use Rattle.raster_cells.proofs.Repeats.{repeated, length-repeated, repeated_in_range, bytes_repeated}
use Rattle.raster_cells.proofs.values.cells.CellsCellStore.repeat_run.Goals as goal

within : (c : goal.After-repeat_bytes) → c.args.to + c.args.count ≤ length (listed c.self.inside)
within c = subst (λ (l : CellList). c.args.to + c.args.count ≤ length l.values) (sym c.self.view_is) c.requires.within

laid : (c : goal.After-repeat_bytes) → c.repeat_bytes.new.bytes.items ≡ values_bytes c.self.inside.kind (repeated (listed c.self.inside) c.args.at c.args.to c.args.count)
laid c =
    c.repeat_bytes.ensures
    ∙ bytes_repeated c.self.inside.kind (listed c.self.inside) c.self.inside.bytes.items c.args.at c.args.to c.args.count c.place-from.result c.place-dest.result (c.place-end.result - c.place-from.result) c.requires.behind (within c)
    c.self.invariant.bytes c.place-from.ensures.value c.place-dest.ensures.value (omega (arith, c.place-end.ensures.value, c.place-from.ensures.value))

pub invariant_of-self : goal.invariant_of-self
invariant_of-self c =
    let a = c.self.inside in
    are_cells _ (repeated (listed a) c.args.at c.args.to c.args.count) (laid c) (length-repeated (listed a) c.args.at c.args.to c.args.count c.requires.behind (within c) ∙ c.self.invariant.counted)
    (repeated_in_range a.kind (listed a) c.args.at c.args.to c.args.count c.requires.behind (within c) c.self.invariant.in_range) c.self.invariant.few

pub returns-clause-repeated : goal.returns-clause-repeated
returns-clause-repeated c =
    let a = c.self.inside in
    let same : values_in a.kind a.count c.repeat_bytes.new.bytes.items ≡ repeated (listed a) c.args.at c.args.to c.args.count =
    values_is a.kind a.count _ (repeated (listed a) c.args.at c.args.to c.args.count) (laid c) (length-repeated (listed a) c.args.at c.args.to c.args.count c.requires.behind (within c) ∙ c.self.invariant.counted)
    (repeated_in_range a.kind (listed a) c.args.at c.args.to c.args.count c.requires.behind (within c) c.self.invariant.in_range) in
    ap (λ vs. record { kind = a.kind; values = vs }) same
    ∙ ap (λ (l : CellList). record { kind = l.kind; values = repeated l.values c.args.at c.args.to c.args.count }) c.self.view_is
