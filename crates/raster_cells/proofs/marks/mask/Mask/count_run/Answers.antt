use Rattle.std.proofs.Common.{◌≡◌, ◌+◌, Bool, List, ap, ◌∙◌, sym, length, get_or, false, arith}
use Rattle.std.specs.Prelude.{count_by}
use Rattle.std.specs.List.{filter, range_with_len}
use Rattle.raster_cells.specs.Masks.{mask_bit}
use Rattle.raster_cells.specs.inside.MaskView.{seen_mask}
use Rattle.raster_cells.specs.Runs.{run_places}
use Rattle.raster_cells.proofs.MaskBits.{count_is, size_is, bit_is, run_room}
use Rattle.raster_cells.proofs.MaskCounts.{same_count, all_count, all_set}
use Rattle.raster_cells.proofs.marks.mask.Mask.count_run.Goals as goal

pub count_bits-requires-clause-few : goal.count_bits-requires-clause-few
count_bits-requires-clause-few c = (run_room c.self.inside _ c.args.from c.args.count c.self.invariant c.self.view_is c.requires).0

pub count_bits-requires-clause-within : goal.count_bits-requires-clause-within
count_bits-requires-clause-within c = omega (arith, (run_room c.self.inside _ c.args.from c.args.count c.self.invariant c.self.view_is c.requires).1, ap length c.deref.ensures.value)

pub returns-then-self : goal.returns-then-self
returns-then-self c =
    let ms = seen_mask c.self.inside in
    let full : count_by (λ m. m) ms ≡ length ms = sym c.self.invariant.counted ∙ c.if-self.true ∙ sym (size_is c.self.inside) in
    sym (ap (λ (xs : List Bool). length (run_places xs c.args.from c.args.count)) (sym c.self.view_is)
    ∙ all_count (λ k. get_or ms k false) c.args.from c.args.count (λ k low high. all_set ms k full (omega (arith, c.requires, count_is c.self.inside _ c.self.view_is, size_is c.self.inside))))

pub returns : goal.returns
returns c =
    let ms = seen_mask c.self.inside in
    c.count_bits.ensures ∙ ap (λ xs. length (filter (mask_bit xs) (range_with_len c.args.from c.args.count))) c.deref.ensures.value
    ∙ same_count (mask_bit c.self.inside.bytes.items) (λ k. get_or ms k false) c.args.from c.args.from c.args.count (λ i less. bit_is c.self.inside c.self.invariant (c.args.from + i))
    ∙ ap (λ (xs : List Bool). length (run_places xs c.args.from c.args.count)) c.self.view_is
