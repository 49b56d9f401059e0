use Rattle.std.proofs.Common.{◌≡◌, ap, ◌∙◌, sym, length, replicate}
use Rattle.std.proofs.lemmas.List.{length-replicate}
use Rattle.raster_cells.proofs.MaskBits.{bits_all}
use Rattle.raster_cells.proofs.marks.mask.set_front.Goals as goal

pub returns-clause-bits : goal.returns-clause-bits
returns-clause-bits c k =
    let bytes = c.fill_bits.new.bytes.items in
    let size : length bytes ≡ length c.args.bytes.now.items = ap length c.fill_bits.ensures ∙ length-replicate (length c.args.bytes.now.items) 255 in
    c.clear_spare.ensures.bits k ∙ bits_all bytes c.args.count k (size ∙ c.requires.size) (c.fill_bits.ensures ∙ ap (λ n. replicate n 255) (sym size))
