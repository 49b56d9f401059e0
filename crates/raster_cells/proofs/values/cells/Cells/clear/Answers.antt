use Rattle.std.proofs.Common.{◌≡◌, ◌+◌, ◌-◌, ◌≤◌, ap, ◌∙◌, sym, subst, length, arith}
use Rattle.raster_cells.specs.Values.{values_bytes}
use Rattle.raster_cells.specs.CellList.{CellList, values_in}
use Rattle.raster_cells.specs.inside.CellView.{listed}
use Rattle.raster_cells.specs.Cleared.{cleared}
use Rattle.raster_cells.proofs.ValueBits.{length-cleared}
use Rattle.raster_cells.proofs.CellRuns.{run_cleared, cleared_in_range, are_cells, values_is}
use Rattle.raster_cells.proofs.values.cells.Cells.clear.Goals as goal

within : (c : goal.After-clear_bytes) → c.args.at + c.args.count ≤ length (listed c.self.inside)
within c = subst (λ (l : CellList). c.args.at + c.args.count ≤ length l.values) (sym c.self.view_is) c.requires

laid : (c : goal.After-clear_bytes) → c.clear_bytes.new.bytes.items ≡ values_bytes c.self.inside.kind (cleared (listed c.self.inside) c.args.at c.args.count)
laid c =
    c.clear_bytes.ensures
    ∙ run_cleared c.self.inside.kind (listed c.self.inside) c.self.inside.bytes.items c.args.at c.args.count c.place-from.result (c.place-end.result - c.place-from.result) (within c) c.self.invariant.bytes c.place-from.ensures.value
    (omega (arith, c.place-end.ensures.value, c.place-from.ensures.value))

pub invariant_of-self : goal.invariant_of-self
invariant_of-self c =
    are_cells _ (cleared (listed c.self.inside) c.args.at c.args.count) (laid c) (length-cleared (listed c.self.inside) c.args.at c.args.count (within c) ∙ c.self.invariant.counted)
    (cleared_in_range c.self.inside.kind (listed c.self.inside) c.args.at c.args.count c.self.invariant.in_range) c.self.invariant.few

pub returns : goal.returns
returns c =
    let same : values_in c.self.inside.kind c.self.inside.count c.clear_bytes.new.bytes.items ≡ cleared (listed c.self.inside) c.args.at c.args.count =
    values_is c.self.inside.kind c.self.inside.count _ (cleared (listed c.self.inside) c.args.at c.args.count) (laid c) (length-cleared (listed c.self.inside) c.args.at c.args.count (within c) ∙ c.self.invariant.counted)
    (cleared_in_range c.self.inside.kind (listed c.self.inside) c.args.at c.args.count c.self.invariant.in_range) in
    ap (λ vs. record { kind = c.self.inside.kind; values = vs }) same
    ∙ ap (λ (l : CellList). record { kind = l.kind; values = cleared l.values c.args.at c.args.count }) c.self.view_is
