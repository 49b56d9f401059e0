use Rattle.std.proofs.Common.{◌≡◌, ◌+◌, ◌/◌, ◌&&◌, ℕ, ap, ◌∙◌, sym, length, get_or, false, arith}
use Rattle.std.specs.Prelude.{count_by, nat_lt}
use Rattle.raster_cells.specs.Masks.{mask_bit, marks_in}
use Rattle.raster_cells.proofs.MaskBits.{count_is, are_mask, marks_are, length-marks_in, bits_before}
use Rattle.raster_cells.proofs.MaskCounts.{count_of_marks}
use Rattle.raster_cells.proofs.marks.mask.Mask.set_all.Goals as goal

pub lay-requires : goal.lay-requires
lay-requires c = c.requires ∙ ap (λ n. (n + 7) / 8) (count_is c.self.inside _ c.self.view_is) ∙ sym c.self.invariant.size

pub clear_spare-requires-clause-size : goal.clear_spare-requires-clause-size
clear_spare-requires-clause-size c = ap length c.lay.ensures ∙ c.requires ∙ ap (λ n. (n + 7) / 8) (count_is c.self.inside _ c.self.view_is)

pub count_bits-self-inside-requires-clause-within : goal.count_bits-self-inside-requires-clause-within
count_bits-self-inside-requires-clause-within c =
    let size : length c.deref.result.now ≡ (c.self.inside.count + 7) / 8 = ap length c.deref.ensures.value ∙ c.clear_spare.ensures.size ∙ ap length c.lay.ensures ∙ c.requires ∙ ap (λ n. (n + 7) / 8) (count_is c.self.inside _ c.self.view_is) in
    omega arith

bits : (c : goal.After-self-1) → (k : ℕ) → mask_bit c.clear_spare.new.bytes.items k ≡ get_or (marks_in c.self.inside.count c.args.mask.now) k false
bits c k = c.clear_spare.ensures.bits k ∙ ap (λ xs. nat_lt k c.self.inside.count && mask_bit xs k) c.lay.ensures ∙ bits_before c.self.inside.count c.args.mask.now k

same : (c : goal.After-self-1) → marks_in c.self.inside.count c.clear_spare.new.bytes.items ≡ marks_in c.self.inside.count c.args.mask.now
same c = marks_are c.self.inside.count c.clear_spare.new.bytes.items (marks_in c.self.inside.count c.args.mask.now) (length-marks_in c.self.inside.count c.args.mask.now) (λ k _. bits c k)

pub invariant_of-self : goal.invariant_of-self
invariant_of-self c =
    let n = c.self.inside.count in
    are_mask _ (marks_in n c.args.mask.now) c.self.invariant.few (length-marks_in n c.args.mask.now) (c.clear_spare.ensures.size ∙ ap length c.lay.ensures ∙ c.requires ∙ ap (λ n. (n + 7) / 8) (count_is c.self.inside _ c.self.view_is)) (bits c)
    (c.count_bits-self-inside.ensures ∙ count_of_marks n c.deref.result.now ∙ ap (λ xs. count_by (λ m. m) (marks_in n xs)) c.deref.ensures.value ∙ ap (count_by (λ m. m)) (same c))

pub returns : goal.returns
returns c = same c ∙ ap (λ n. marks_in n c.args.mask.now) (sym (count_is c.self.inside _ c.self.view_is))
