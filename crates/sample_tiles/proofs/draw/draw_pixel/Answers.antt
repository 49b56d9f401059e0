use Rattle.std.proofs.Common.{◌∙◌, ◌≤◌, arith}
use Rattle.sample_tiles.specs.inside.Drawing.{pixel_of}
use Rattle.sample_tiles.proofs.Drawing.{number_one, one_drawn, one_open, pixel_drawn}
use Rattle.sample_tiles.proofs.draw.draw_pixel.Goals as goal

pub give-requires-clause-invalid : goal.give-requires-clause-invalid
give-requires-clause-invalid c = c.requires.open.rest c.args.k (let same : c.args.k ≤ c.args.k = omega arith in same)

pub returns-clause-open : goal.returns-clause-open
returns-clause-open c = one_open c.args.k c.args.tile.now c.give.new.tile (pixel_of c.value.result) c.requires.within c.requires.open c.give.ensures

pub returns-clause-tile : goal.returns-clause-tile
returns-clause-tile c = λ start t old number.
    one_drawn c.args.k c.args.tile.now c.give.new.tile (pixel_of c.value.result) c.requires.within c.requires.open c.give.ensures start t old
    (c.value.ensures.value ∙ pixel_drawn start t c.args.k c.args.x.now c.next.result number c.next.ensures)

pub returns-clause-number : goal.returns-clause-number
returns-clause-number c = λ start t number. number_one start t c.args.k c.args.x.now c.next.result number c.next.ensures
