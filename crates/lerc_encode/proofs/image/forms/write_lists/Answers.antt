use Rattle.std.proofs.Common.{◌∙◌, arith}
use Rattle.lerc_encode.proofs.Forming.{front_room, length_front}
use Rattle.lerc_encode.proofs.image.forms.write_lists.Goals as goal

pub write_ranges-requires-clause-low : goal.write_ranges-requires-clause-low
write_ranges-requires-clause-low g c =
    c.split_at_mut-low.ensures.front_len ∙ front_room (g.V.View.pixels c.args.raster.now) c.args.out.now c.requires.room

pub write_ranges-requires-clause-high : goal.write_ranges-requires-clause-high
write_ranges-requires-clause-high g c =
    let r = (g.V.View.pixels c.args.raster.now) in
    let half = front_room r c.args.out.now c.requires.room in
    let whole = length_front r in
    omega (arith, half, whole, c.requires.room, c.split_at_mut-low.ensures.back_len)
