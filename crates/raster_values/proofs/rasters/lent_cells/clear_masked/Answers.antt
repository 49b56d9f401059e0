use Rattle.std.proofs.Common.{◌≡◌, ◌*◌, ◌∙◌, ap, sym, refl, length, replicate, arith}
use Rattle.std.specs.Prelude.{pos}
use Rattle.std.proofs.lemmas.List.{length-replicate}
use Rattle.std.proofs.lemmas.List.Elements.{All-replicate}
use Rattle.raster_cells.specs.PixelType.{InRange}
use Rattle.raster_cells.specs.Values.{values_bytes}
use Rattle.raster_cells.proofs.CellRuns.{values_is, zero_bytes}
use Rattle.raster_cells.proofs.ValueBytes.{are_value_bytes, of_bytes}
use Rattle.raster_cells.proofs.ValueBits.{zero_in_range}
use Rattle.raster_values.proofs.rasters.lent_cells.clear_masked.Goals as goal

pub returns-then-valid_count-len : goal.returns-then-valid_count-len
returns-then-valid_count-len c = record {
  cells = of_bytes c.args.kind (length c.args.marks.now * c.args.depth) c.args.values.now c.requires.few (λ i. omega (arith, c.type_inv.values i)) c.requires.size;
  whole = λ full. refl;
  zeros = λ some. absurd (some (sym c.valid_count.ensures ∙ c.if-valid_count-len.true ∙ c.len.ensures.value));
}

pub returns : goal.returns
returns c =
    let kind = c.args.kind in
    let n = length c.args.marks.now * c.args.depth in
    let filled : c.fill.new.self ≡ replicate (length c.args.values.now) 0 = c.fill.ensures.after (λ y e. e) in
    let laid : c.fill.new.self ≡ values_bytes kind (replicate n (pos 0)) = filled ∙ ap (λ m. replicate m 0) c.requires.size ∙ sym (zero_bytes kind n) in
    let fits = All-replicate (InRange kind) n (pos 0) (zero_in_range kind) in
    let long = length-replicate n (pos 0) in
    record {
      cells = are_value_bytes kind n c.fill.new.self (replicate n (pos 0)) laid long fits c.requires.few;
      whole = λ full. absurd (c.if-valid_count-len.false (c.valid_count.ensures ∙ full ∙ sym c.len.ensures.value));
      zeros = λ some. values_is kind n c.fill.new.self (replicate n (pos 0)) laid long fits;
    }
