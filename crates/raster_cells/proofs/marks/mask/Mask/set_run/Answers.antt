use Rattle.std.proofs.Common.{◌≡◌, ◌+◌, ◌++◌, ℕ, Bool, List, ap, ◌∙◌, length, get_or, take, drop, map, false, arith}
use Rattle.std.specs.Prelude.{nat_eq}
use Rattle.raster_cells.specs.Masks.{mask_bit}
use Rattle.raster_cells.specs.inside.MaskView.{seen_mask}
use Rattle.raster_cells.proofs.MaskBits.{size_is, bit_is, are_mask, marks_are, few_valid, run_room, run_within, run_counted}
use Rattle.raster_cells.proofs.MaskCounts.{run_marks, length_run, count_most}
use Rattle.raster_cells.proofs.marks.mask.Mask.set_run.Goals as goal

bits : (c : goal.After-self-1) → (k : ℕ) → mask_bit c.put_bits.new.bytes.items k
    ≡ get_or (take c.args.from (seen_mask c.self.inside) ++ (map (λ b. nat_eq b 1) c.args.marks.now ++ drop (c.args.from + length c.args.marks.now) (seen_mask c.self.inside))) k false
bits c k = c.put_bits.ensures.bits k ∙ run_marks c.self.inside.bytes.items (seen_mask c.self.inside) c.args.marks.now c.args.from k (run_within c.self.inside _ c.args.from (length c.args.marks.now) c.self.view_is c.requires.within) (bit_is c.self.inside c.self.invariant)

pub count_bits-before-requires-clause-few : goal.count_bits-before-requires-clause-few
count_bits-before-requires-clause-few c = (run_room c.self.inside _ c.args.from (length c.args.marks.now) c.self.invariant c.self.view_is c.requires.within).0

pub count_bits-before-requires-clause-within : goal.count_bits-before-requires-clause-within
count_bits-before-requires-clause-within c = omega (arith, (run_room c.self.inside _ c.args.from (length c.args.marks.now) c.self.invariant c.self.view_is c.requires.within).1, ap length c.deref.ensures.value)

pub put_bits-requires-clause-few : goal.put_bits-requires-clause-few
put_bits-requires-clause-few c = (run_room c.self.inside _ c.args.from (length c.args.marks.now) c.self.invariant c.self.view_is c.requires.within).0

pub put_bits-requires-clause-within : goal.put_bits-requires-clause-within
put_bits-requires-clause-within c = (run_room c.self.inside _ c.args.from (length c.args.marks.now) c.self.invariant c.self.view_is c.requires.within).1

pub count_bits-after-requires-clause-few : goal.count_bits-after-requires-clause-few
count_bits-after-requires-clause-few c = (run_room c.self.inside _ c.args.from (length c.args.marks.now) c.self.invariant c.self.view_is c.requires.within).0

pub count_bits-after-requires-clause-within : goal.count_bits-after-requires-clause-within
count_bits-after-requires-clause-within c = omega (arith, (run_room c.self.inside _ c.args.from (length c.args.marks.now) c.self.invariant c.self.view_is c.requires.within).1, ap length c.deref-2.ensures.value, c.put_bits.ensures.size)

pub overflow_sub-self : goal.overflow_sub-self
overflow_sub-self c =
    (run_counted c.self.inside c.put_bits.new.bytes.items c.args.marks.now c.deref.result.now c.deref-2.result.now c.args.from c.count_bits-before.result c.count_bits-after.result c.self.invariant
    (run_within c.self.inside _ c.args.from (length c.args.marks.now) c.self.view_is c.requires.within) c.put_bits.ensures.bits c.deref.ensures.value c.deref-2.ensures.value c.count_bits-before.ensures c.count_bits-after.ensures).0

pub overflow_add-self : goal.overflow_add-self
overflow_add-self c = omega (arith, few_valid c.self.inside c.self.invariant, c.count_bits-after.ensures, count_most (mask_bit c.deref-2.result.now) c.args.from (length c.args.marks.now), (run_room c.self.inside _ c.args.from (length c.args.marks.now) c.self.invariant c.self.view_is c.requires.within).0)

pub invariant_of-self : goal.invariant_of-self
invariant_of-self c =
    let ms = seen_mask c.self.inside in
    are_mask _ (take c.args.from ms ++ (map (λ b. nat_eq b 1) c.args.marks.now ++ drop (c.args.from + length c.args.marks.now) ms)) c.self.invariant.few
    (length_run ms c.args.marks.now c.args.from (run_within c.self.inside _ c.args.from (length c.args.marks.now) c.self.view_is c.requires.within) ∙ size_is c.self.inside) (c.put_bits.ensures.size ∙ c.self.invariant.size) (bits c) (run_counted c.self.inside c.put_bits.new.bytes.items c.args.marks.now c.deref.result.now c.deref-2.result.now c.args.from c.count_bits-before.result c.count_bits-after.result c.self.invariant
    (run_within c.self.inside _ c.args.from (length c.args.marks.now) c.self.view_is c.requires.within) c.put_bits.ensures.bits c.deref.ensures.value c.deref-2.ensures.value c.count_bits-before.ensures c.count_bits-after.ensures).1

pub returns : goal.returns
returns c =
    let ms = seen_mask c.self.inside in
    marks_are c.self.inside.count c.put_bits.new.bytes.items (take c.args.from ms ++ (map (λ b. nat_eq b 1) c.args.marks.now ++ drop (c.args.from + length c.args.marks.now) ms))
    (length_run ms c.args.marks.now c.args.from (run_within c.self.inside _ c.args.from (length c.args.marks.now) c.self.view_is c.requires.within) ∙ size_is c.self.inside) (λ k _. bits c k)
    ∙ ap (λ (xs : List Bool). take c.args.from xs ++ (map (λ b. nat_eq b 1) c.args.marks.now ++ drop (c.args.from + length c.args.marks.now) xs)) c.self.view_is
