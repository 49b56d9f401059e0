use Rattle.std.proofs.Common.{◌≡◌, ◌+◌, ◌*◌, ◌≤◌, arith, ap, ◌∙◌, sym, subst, length}
use Rattle.raster_cells.specs.PixelType.{bytes_of}
use Rattle.raster_cells.specs.Values.{values_bytes}
use Rattle.raster_cells.specs.CellList.{CellList, values_in}
use Rattle.raster_cells.specs.inside.CellView.{listed}
use Rattle.raster_cells.proofs.CellRuns.{are_cells, values_is}
use Rattle.raster_cells.proofs.Spelled.{AreBytes, bytes_laid, bytes_put, length-bytes_put, bytes_put_in_range}
use Rattle.raster_cells.proofs.values.cells.CellsCellStore.put_bytes.Goals as goal

within : (c : goal.After-lay_bytes) → c.args.at + c.args.count ≤ length (listed c.self.inside)
within c = subst (λ (l : CellList). c.args.at + c.args.count ≤ length l.values) (sym c.self.view_is) c.requires.within

size : (c : goal.After-lay_bytes) → length c.args.bytes.now ≡ c.args.count * bytes_of c.self.inside.kind
size c = c.requires.size ∙ ap (λ (l : CellList). c.args.count * bytes_of l.kind) (sym c.self.view_is)

bytes_are : (c : goal.After-lay_bytes) → AreBytes c.args.bytes.now
bytes_are c i = omega (arith, c.type_inv.bytes i)

laid : (c : goal.After-lay_bytes) → c.lay_bytes.new.bytes.items ≡ values_bytes c.self.inside.kind (bytes_put c.self.inside.kind (listed c.self.inside) c.args.at c.args.count c.args.bytes.now)
laid c =
    c.lay_bytes.ensures
    ∙ bytes_laid c.self.inside.kind (listed c.self.inside) c.self.inside.bytes.items c.args.bytes.now c.args.at c.args.count c.place-from.result (within c) c.self.invariant.bytes c.place-from.ensures.value (size c) (bytes_are c)

pub invariant_of-self : goal.invariant_of-self
invariant_of-self c =
    let a = c.self.inside in
    are_cells _ (bytes_put a.kind (listed a) c.args.at c.args.count c.args.bytes.now) (laid c) (length-bytes_put a.kind (listed a) c.args.at c.args.count c.args.bytes.now (within c) ∙ c.self.invariant.counted)
    (bytes_put_in_range a.kind (listed a) c.args.at c.args.count c.args.bytes.now c.self.invariant.in_range (bytes_are c)) c.self.invariant.few

pub returns-clause-put : goal.returns-clause-put
returns-clause-put c =
    let a = c.self.inside in
    let same : values_in a.kind a.count c.lay_bytes.new.bytes.items ≡ bytes_put a.kind (listed a) c.args.at c.args.count c.args.bytes.now =
    values_is a.kind a.count _ (bytes_put a.kind (listed a) c.args.at c.args.count c.args.bytes.now) (laid c) (length-bytes_put a.kind (listed a) c.args.at c.args.count c.args.bytes.now (within c) ∙ c.self.invariant.counted)
    (bytes_put_in_range a.kind (listed a) c.args.at c.args.count c.args.bytes.now c.self.invariant.in_range (bytes_are c)) in
    ap (λ vs. record { kind = a.kind; values = vs }) same
    ∙ ap (λ (l : CellList). record { kind = l.kind; values = bytes_put l.kind l.values c.args.at c.args.count c.args.bytes.now }) c.self.view_is
