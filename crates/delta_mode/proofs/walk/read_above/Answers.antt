use Rattle.std.proofs.Common.{pos, refl, sym, subst}
use Rattle.raster_cells.specs.PixelType.{InRange}
use Rattle.delta_mode.proofs.Marks.{each_in_range, value_in_range, zero_in_range}
use Rattle.delta_mode.proofs.walk.read_above.Goals as goal

pub returns-then-place-cols-clause-in_range : goal.returns-then-place-cols-clause-in_range
returns-then-place-cols-clause-in_range g c =
    let kind = (g.T.Target.pixels c.args.raster.now).kind in
    let filled = c.fill-then-place-cols.ensures in
    each_in_range kind c.fill-then-place-cols.new.self _ filled.len
    (λ i lt. subst (InRange kind) (sym (filled.clones i (pos 0) lt refl)) (zero_in_range kind))

pub returns-else-place-cols-clause-in_range : goal.returns-else-place-cols-clause-in_range
returns-else-place-cols-clause-in_range g c =
    let r = (g.T.Target.pixels c.args.raster.now) in
    each_in_range r.kind c.values_from.new.out _ c.values_from.ensures.room
    (λ i lt. subst (InRange r.kind) (sym (c.values_from.ensures.values i lt)) (value_in_range r _ _ c.cols-cols.ensures.sound))
