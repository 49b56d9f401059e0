use Rattle.std.proofs.Common.{◌≡◌, ◌+◌, Bool, List, ap, ◌∙◌, sym, length, get_or, replicate, true, false, arith}
use Rattle.std.specs.Prelude.{count_by}
use Rattle.std.proofs.lemmas.List.{get_or-replicate}
use Rattle.raster_cells.specs.inside.MaskView.{seen_mask}
use Rattle.raster_cells.specs.Masks.{mask_bit}
use Rattle.raster_cells.proofs.MaskBits.{count_is, size_is, bit_is, run_room}
use Rattle.raster_cells.proofs.MaskCounts.{all_set}
use Rattle.raster_cells.proofs.marks.mask.Mask.copy_run.Goals as goal

pub returns-then-self : goal.returns-then-self
returns-then-self c =
    let ms = seen_mask c.self.inside in
    let full : count_by (λ m. m) ms ≡ length ms = sym c.self.invariant.counted ∙ c.if-self.true ∙ sym (size_is c.self.inside) in
    let out : c.fill.new.self ≡ replicate (length c.args.out.now) true = c.fill.ensures.after (λ y e. e) in
    λ i less.
    ap (λ xs. get_or xs i false) out ∙ get_or-replicate (length c.args.out.now) i true false less
    ∙ sym (ap (λ (xs : List Bool). get_or xs (c.args.from + i) false) (sym c.self.view_is) ∙ all_set ms (c.args.from + i) full (omega (arith, c.requires, count_is c.self.inside _ c.self.view_is, size_is c.self.inside)))

pub copy_bits-requires-clause-few : goal.copy_bits-requires-clause-few
copy_bits-requires-clause-few c = (run_room c.self.inside _ c.args.from (length c.args.out.now) c.self.invariant c.self.view_is c.requires).0

pub copy_bits-requires-clause-within : goal.copy_bits-requires-clause-within
copy_bits-requires-clause-within c = omega (arith, (run_room c.self.inside _ c.args.from (length c.args.out.now) c.self.invariant c.self.view_is c.requires).1, ap length c.deref.ensures.value)

pub returns : goal.returns
returns c i less =
    c.copy_bits.ensures i less ∙ ap (λ xs. mask_bit xs (c.args.from + i)) c.deref.ensures.value
    ∙ bit_is c.self.inside c.self.invariant (c.args.from + i) ∙ ap (λ (xs : List Bool). get_or xs (c.args.from + i) false) c.self.view_is
