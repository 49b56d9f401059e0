use Rattle.std.proofs.Common.{◌≡◌, ap, ◌∙◌, sym, replicate, rules}
use Rattle.std.specs.Prelude.{pos}
use Rattle.std.proofs.lemmas.List.{length-replicate}
use Rattle.std.proofs.lemmas.List.Elements.{All-replicate}
use Rattle.raster_cells.specs.PixelType.{InRange}
use Rattle.raster_cells.specs.Values.{values_bytes}
use Rattle.raster_cells.proofs.ValueBits.{zero_in_range}
use Rattle.raster_cells.proofs.CellRuns.{are_cells, values_is, zero_bytes}
use Rattle.raster_cells.proofs.values.cells.Cells.new.Goals as goal

zeros : (c : goal.In_ok-bytes) → c.in_ok-bytes.bytes.items ≡ values_bytes c.args.kind (replicate c.args.count (pos 0))
zeros c =
    let items : c.in_ok-bytes.bytes.items ≡ replicate c.place.result 0 = search rules in
    items ∙ ap (λ n. replicate n 0) c.place.ensures.value ∙ sym (zero_bytes c.args.kind c.args.count)

pub invariant_of-result : goal.invariant_of-result
invariant_of-result c = are_cells _ (replicate c.args.count (pos 0)) (zeros c) (length-replicate c.args.count (pos 0)) (All-replicate (InRange c.args.kind) c.args.count (pos 0) (zero_in_range c.args.kind)) c.requires

pub returns : goal.returns
returns c =
    ap (λ vs. record { kind = c.args.kind; values = vs }) (values_is c.args.kind c.args.count _ (replicate c.args.count (pos 0)) (zeros c) (length-replicate c.args.count (pos 0)) (All-replicate (InRange c.args.kind) c.args.count (pos 0) (zero_in_range c.args.kind)))
