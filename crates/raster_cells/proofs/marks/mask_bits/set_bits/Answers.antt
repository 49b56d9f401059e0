use Rattle.std.proofs.Common.{◌≡◌, ◌∙◌, ◌&&◌, nat_lt, ap, sym, length, replicate, true, arith}
use Rattle.std.proofs.lemmas.Bool.Decides.{nat_tests}
use Rattle.std.proofs.lemmas.List.{length-replicate}
use Rattle.raster_cells.specs.Masks.{mask_bit}
use Rattle.raster_cells.proofs.MaskBits.{all_on, bits_all, marks_are}
use Rattle.raster_cells.proofs.marks.mask_bits.set_bits.Goals as goal

pub clear_spare-requires-clause-size : goal.clear_spare-requires-clause-size
clear_spare-requires-clause-size c = ap length c.fill_bytes.ensures ∙ length-replicate (length c.args.bits.now) 255 ∙ c.requires.size

pub returns-clause-size : goal.returns-clause-size
returns-clause-size c = c.clear_spare.ensures.size ∙ ap length c.fill_bytes.ensures ∙ length-replicate (length c.args.bits.now) 255

pub returns-clause-marks : goal.returns-clause-marks
returns-clause-marks c =
    let n = c.args.pixels in
    let filled = c.fill_bytes.new.bytes in
    let size : length filled ≡ length c.args.bits.now = ap length c.fill_bytes.ensures ∙ length-replicate (length c.args.bits.now) 255 in
    c.clear_spare.ensures.marks
    ∙ marks_are n filled (replicate n true) (length-replicate n true) (λ k lt.
    let t : nat_lt k n ≡ true = grind (arith, nat_tests) in
    sym (ap (λ u. u && mask_bit filled k) t) ∙ bits_all filled n k (size ∙ c.requires.size) (c.fill_bytes.ensures ∙ ap (λ m. replicate m 255) (sym size)) ∙ sym (all_on n k))
