use Rattle.std.proofs.Common.{◌≡◌, ◌<◌, ◌+◌, ◌*◌, ap, sym, ◌∙◌, length, get_or, replicate, arith}
use Rattle.std.specs.Prelude.{pos}
use Rattle.std.proofs.lemmas.List.{ext_get_or, length-replicate, get_or-replicate}
use Rattle.raster_cells.specs.CellList.{CellList}
use Rattle.raster_cells.proofs.ValueBits.{same_bits}
use Rattle.raster_cells.proofs.values.cells.Cells.fill.Goals as goal

pub returns : goal.returns
returns c =
    let vs = c.fill_pixels.new.cells.values in
    let n = length c.args.self.now.values in
    let count : c.self.inside.count ≡ n = sym c.self.invariant.counted ∙ ap (λ (l : CellList). length l.values) c.self.view_is in
    let same : vs ≡ replicate n c.args.value = ext_get_or (pos 0) vs (replicate n c.args.value) (c.fill_pixels.ensures.form.size ∙ sym (length-replicate n c.args.value)) (λ k below.
    let less : k < n = omega (arith, c.fill_pixels.ensures.form.size) in
    let at : k ≡ k * 1 + 0 = omega arith in
    ap (λ j. get_or vs j (pos 0)) at ∙ c.fill_pixels.ensures.filled.each k 0 (omega arith) (omega (arith, count)) (omega arith)
    ∙ same_bits c.args.self.now.kind c.args.value c.requires ∙ sym (get_or-replicate n k c.args.value (pos 0) less)) in
    λ i. record { kind = c.fill_pixels.ensures.form.kind i; values = same i }
