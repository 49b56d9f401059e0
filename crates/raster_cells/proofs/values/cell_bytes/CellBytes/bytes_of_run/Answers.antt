use Rattle.std.proofs.Common.{◌≡◌, ◌+◌, ◌*◌, ◌-◌, ◌≤◌, ap, ◌∙◌, subst, take, drop, length, arith}
use Rattle.raster_cells.specs.PixelType.{bytes_of}
use Rattle.raster_cells.specs.Values.{values_bytes}
use Rattle.raster_cells.specs.CellList.{CellList, values_in}
use Rattle.std.proofs.lemmas.List.{length-drop}
use Rattle.raster_cells.proofs.CellRuns.{bytes_front, bytes_behind}
use Rattle.raster_cells.proofs.values.cell_bytes.CellBytes.bytes_of_run.Goals as goal

pub returns : goal.returns
returns c =
    let a = c.self.inside in
    let listed = values_in a.kind a.count a.bytes.now in
    let at = c.args.at in
    let count = c.args.count in
    let size : c.place-end.result - c.place-from.result ≡ count * bytes_of a.kind = omega (arith, c.place-end.ensures.value, c.place-from.ensures.value) in
    subst (λ (l : CellList). at + count ≤ length l.values → take (c.place-end.result - c.place-from.result) (drop c.place-from.result a.bytes.now) ≡ values_bytes l.kind (take count (drop at l.values))) c.self.view_is
    (λ within.
    ap (λ n. take n (drop c.place-from.result a.bytes.now)) size
    ∙ ap (λ n. take (count * bytes_of a.kind) (drop n a.bytes.now)) c.place-from.ensures.value
    ∙ ap (λ xs. take (count * bytes_of a.kind) (drop (at * bytes_of a.kind) xs)) c.self.invariant.bytes_are
    ∙ ap (take (count * bytes_of a.kind)) (bytes_behind a.kind (listed) at (omega (arith, within)))
    ∙ bytes_front a.kind (drop at (listed)) count (omega (arith, within, length-drop at (listed)))) c.requires
