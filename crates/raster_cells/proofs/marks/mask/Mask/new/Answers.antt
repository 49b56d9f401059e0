use Rattle.std.proofs.Common.{◌≡◌, ◌+◌, ◌/◌, ap, ◌∙◌, sym, length, replicate, false, arith, rules}
use Rattle.std.proofs.lemmas.List.{length-replicate}
use Rattle.raster_cells.specs.Masks.{mask_bit}
use Rattle.raster_cells.proofs.MaskBits.{are_mask, marks_are, bits_none, count_of_none}
use Rattle.raster_cells.proofs.marks.mask.Mask.new.Goals as goal

zeros : (c : goal.In_ok-bytes) → c.in_ok-bytes.bytes.items ≡ replicate c.div_ceil.result 0
zeros c = search rules

pub invariant_of-result : goal.invariant_of-result
invariant_of-result c =
    are_mask _ (replicate c.args.count false) c.requires (length-replicate c.args.count false)
    (ap length (zeros c) ∙ length-replicate c.div_ceil.result 0 ∙ (let e : c.div_ceil.result ≡ (c.args.count + 7) / 8 = omega (arith, c.div_ceil.ensures) in e))
    (λ k. ap (λ xs. mask_bit xs k) (zeros c) ∙ bits_none c.args.count c.div_ceil.result k) (sym (count_of_none c.args.count))

pub returns : goal.returns
returns c = marks_are c.args.count c.in_ok-bytes.bytes.items (replicate c.args.count false) (length-replicate c.args.count false) (λ k _. ap (λ xs. mask_bit xs k) (zeros c) ∙ bits_none c.args.count c.div_ceil.result k)
