use Rattle.std.proofs.Common.{◌+◌, ◌∙◌, ap, sym, refl, cond, get_or}
use Rattle.std.specs.Prelude.{nat_eq}
use Rattle.raster_cells.proofs.MaskCounts.{bit_after_none, bit_after_more}
use Rattle.raster_cells.proofs.marks.mask.put_each.Goals as goal

pub loop-i-init : goal.loop-i-init
loop-i-init c = record { size = refl; bits = λ k. sym (bit_after_none c.args.bytes.now.items c.args.marks.now c.args.from k) }

pub loop-i-preserved : goal.loop-i-preserved
loop-i-preserved c = record {
  size = c.put_bit.ensures.size ∙ c.loop-i.invariant.size;
  bits = λ k. c.put_bit.ensures.bits k ∙ ap (λ b. cond (nat_eq k (c.args.from + c.loop-i.i)) (nat_eq (get_or c.args.marks.now c.loop-i.i 0) 1) b) (c.loop-i.invariant.bits k)
      ∙ sym (bit_after_more c.args.bytes.now.items c.args.marks.now c.args.from c.loop-i.i k);
}
