use Rattle.std.proofs.Common.{◌≡◌, ◌<◌, ℕ, Bool, List, ap, ◌∙◌, sym, subst, length, get_or, set, false, arith}
use Rattle.raster_cells.specs.Masks.{mask_bit}
use Rattle.raster_cells.specs.inside.MaskView.{seen_mask}
use Rattle.raster_cells.proofs.Pack.{bit}
use Rattle.raster_cells.proofs.MaskBits.{size_is, bit_is, count_is, are_mask, marks_are, set_size, bits_set, count_set, few_valid, bit_small}
use Rattle.raster_cells.proofs.marks.mask.Mask.set.Goals as goal

pub put_bit-requires : goal.put_bit-requires
put_bit-requires c = omega (arith, count_is c.self.inside _ c.self.view_is, c.self.invariant.size)

pub overflow_add-self : goal.overflow_add-self
overflow_add-self c = omega (arith, few_valid c.self.inside c.self.invariant, c.from.ensures ∙ bit c.args.mark, bit_small c.args.mark)

below : (c : goal.After-self-1) → c.args.k < length (seen_mask c.self.inside)
below c = subst (λ (ms : List Bool). c.args.k < length ms) (sym c.self.view_is) c.requires

bits : (c : goal.After-self-1) → (j : ℕ) → mask_bit c.put_bit.new.bytes.items j ≡ get_or (set (seen_mask c.self.inside) c.args.k c.args.mark) j false
bits c = bits_set c.put_bit.new.bytes.items c.self.inside.bytes.items (seen_mask c.self.inside) c.args.k c.args.mark (below c) (bit_is c.self.inside c.self.invariant) c.put_bit.ensures.bits

pub invariant_of-self : goal.invariant_of-self
invariant_of-self c =
    let old : c.get-was.result ≡ get_or (seen_mask c.self.inside) c.args.k false = c.get-was.ensures ∙ ap (λ (ms : List Bool). get_or ms c.args.k false) (sym c.self.view_is) in
    are_mask _ (set (seen_mask c.self.inside) c.args.k c.args.mark) c.self.invariant.few (set_size _ c.args.k c.args.mark _ (size_is c.self.inside))
    (c.put_bit.ensures.size ∙ c.self.invariant.size) (bits c)
    (count_set (seen_mask c.self.inside) c.args.k c.self.inside.valid c.from.result c.from-2.result c.args.mark c.get-was.result (below c) c.self.invariant.counted old (c.from.ensures ∙ bit c.args.mark) (c.from-2.ensures ∙ bit c.get-was.result)).1

pub returns : goal.returns
returns c =
    marks_are c.self.inside.count c.put_bit.new.bytes.items (set (seen_mask c.self.inside) c.args.k c.args.mark) (set_size _ c.args.k c.args.mark _ (size_is c.self.inside)) (λ k _. bits c k)
    ∙ ap (λ (ms : List Bool). set ms c.args.k c.args.mark) c.self.view_is
