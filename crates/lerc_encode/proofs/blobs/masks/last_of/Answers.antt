use Rattle.std.proofs.Common.{◌-◌, ◌*◌, ◌<◌, length, get_or, subst, arith}
use Rattle.lerc_encode.proofs.MaskEnds.{EndsIn, ending_packed}
use Rattle.lerc_encode.proofs.blobs.masks.last_of.Goals as goal

pub returns-clause-packed : goal.returns-clause-packed
returns-clause-packed g c =
    let r = (g.V.View.pixels c.args.raster.now) in
    let mask = c.args.mask.now in
    let last = c.without_last.result in
    let small : last < 256 = omega (arith, c.without_last.type_inv) in
    ending_packed r mask last c.rows.ensures.sound c.requires.size (λ i. omega (arith, c.type_inv.mask i)) c.requires.bits small
    (subst (λ n. EndsIn (8 * length mask - n) (get_or mask (length mask - 1) 0) last) (λ t. c.rows.ensures.value t * c.cols.ensures.value t) c.without_last.ensures)
