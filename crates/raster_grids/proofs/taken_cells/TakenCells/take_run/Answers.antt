use Rattle.std.proofs.Common.{◌≡◌, ◌+◌, ◌*◌, ◌≤◌, ◌++◌, ap, ◌∙◌, sym, subst, length, take, drop, arith}
use Rattle.raster_cells.specs.PixelType.{bytes_of}
use Rattle.raster_cells.specs.Values.{values_bytes}
use Rattle.raster_cells.specs.CellList.{CellList, values_in}
use Rattle.raster_cells.proofs.CellRuns.{values_is}
use Rattle.raster_cells.proofs.Spelled.{bytes_laid, bytes_put, length-bytes_put, bytes_put_in_range}
use Rattle.raster_grids.proofs.HeldBytes.{are_held}
use Rattle.raster_grids.proofs.taken_cells.TakenCells.take_run.Goals as goal

pub invariant_of-self : goal.invariant_of-self
invariant_of-self g c =
    let a = c.self.inside in
    let run = c.take_into.ensures.taken.run in
    let at = c.args.at in
    let count = c.args.count in
    let within : at + count ≤ length (values_in a.kind a.count a.bytes.items) = subst (λ (l : CellList). at + count ≤ length l.values) (sym c.self.view_is) c.requires.within in
    let size : length run ≡ count * bytes_of a.kind = c.take_into.ensures.taken.size ∙ omega (arith, c.place-from.ensures.value, c.place-end.ensures.value) in
    let laid : c.take_into.new.bytes.items ≡ values_bytes a.kind (bytes_put a.kind (values_in a.kind a.count a.bytes.items) at count run) =
    c.take_into.ensures.taken.laid ∙ ap (λ n. take c.place-from.result a.bytes.items ++ (run ++ drop n a.bytes.items)) (let e : c.place-end.result ≡ c.place-from.result + length run = omega (arith, size, c.place-from.ensures.value, c.place-end.ensures.value) in e)
    ∙ bytes_laid a.kind (values_in a.kind a.count a.bytes.items) a.bytes.items run at count c.place-from.result within c.self.invariant.bytes_are c.place-from.ensures.value size c.take_into.ensures.taken.small in
    are_held a.kind a.count _ (bytes_put a.kind (values_in a.kind a.count a.bytes.items) at count run) laid (length-bytes_put a.kind (values_in a.kind a.count a.bytes.items) at count run within ∙ c.self.invariant.counted)
    (bytes_put_in_range a.kind (values_in a.kind a.count a.bytes.items) at count run c.self.invariant.in_range c.take_into.ensures.taken.small) c.self.invariant.few

pub returns-clause-put : goal.returns-clause-put
returns-clause-put g c =
    let a = c.self.inside in
    let run = c.take_into.ensures.taken.run in
    let at = c.args.at in
    let count = c.args.count in
    let within : at + count ≤ length (values_in a.kind a.count a.bytes.items) = subst (λ (l : CellList). at + count ≤ length l.values) (sym c.self.view_is) c.requires.within in
    let size : length run ≡ count * bytes_of a.kind = c.take_into.ensures.taken.size ∙ omega (arith, c.place-from.ensures.value, c.place-end.ensures.value) in
    let laid : c.take_into.new.bytes.items ≡ values_bytes a.kind (bytes_put a.kind (values_in a.kind a.count a.bytes.items) at count run) =
    c.take_into.ensures.taken.laid ∙ ap (λ n. take c.place-from.result a.bytes.items ++ (run ++ drop n a.bytes.items)) (let e : c.place-end.result ≡ c.place-from.result + length run = omega (arith, size, c.place-from.ensures.value, c.place-end.ensures.value) in e)
    ∙ bytes_laid a.kind (values_in a.kind a.count a.bytes.items) a.bytes.items run at count c.place-from.result within c.self.invariant.bytes_are c.place-from.ensures.value size c.take_into.ensures.taken.small in
    let same : values_in a.kind a.count c.take_into.new.bytes.items ≡ bytes_put a.kind (values_in a.kind a.count a.bytes.items) at count run =
    values_is a.kind a.count _ (bytes_put a.kind (values_in a.kind a.count a.bytes.items) at count run) laid (length-bytes_put a.kind (values_in a.kind a.count a.bytes.items) at count run within ∙ c.self.invariant.counted)
    (bytes_put_in_range a.kind (values_in a.kind a.count a.bytes.items) at count run c.self.invariant.in_range c.take_into.ensures.taken.small) in
    record {
      run = run;
      size = size ∙ ap (λ (l : CellList). count * bytes_of l.kind) c.self.view_is;
      small = c.take_into.ensures.taken.small;
      put = ap (λ vs. record { kind = a.kind; values = vs }) same ∙ ap (λ (l : CellList). record { kind = l.kind; values = bytes_put l.kind l.values at count run }) c.self.view_is;
      of_run = c.take_into.ensures.taken.of_run;
    }
