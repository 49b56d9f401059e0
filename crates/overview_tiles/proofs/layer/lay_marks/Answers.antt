use Rattle.std.proofs.Common.{◌≡◌, length, ◌∙◌, arith}
use Rattle.std.proofs.lemmas.Int.{ints}
use Rattle.overview_tiles.proofs.Steps.{piece_comes, piece_counts, total_below, whole_comes, whole_counts}
use Rattle.overview_tiles.proofs.layer.lay_marks.Goals as goal

-- where every pixel of the piece is valid

pub add_whole_pairs-requires-clause-room : goal.add_whole_pairs-requires-clause-room
add_whole_pairs-requires-clause-room c i less =
    let e = total_below c.args.frame c.args.raster.now c.args.row c.args.col i c.requires.placed c.requires.row (omega (arith, less, c.requires.cols)) in
    omega (arith, e, c.requires.counts)

pub add_whole_pairs-requires-clause-fits : goal.add_whole_pairs-requires-clause-fits
add_whole_pairs-requires-clause-fits c t less =
    let came = whole_comes c.args.frame c.args.raster.now c.args.row c.args.col c.args.count t c.requires.cols (c.is_whole.ensures c.if-is_whole.true) in
    let fit = c.requires.fits t less in
    omega (arith, ints, came, fit)

pub returns-then-is_whole : goal.returns-then-is_whole
returns-then-is_whole c =
    whole_counts c.args.frame c.args.raster.now c.args.row c.args.col c.args.count c.args.counts.now c.add_whole_pairs.new.counts c.requires.cols (c.is_whole.ensures c.if-is_whole.true) c.add_whole_pairs.ensures

-- and where not

pub add_marks-requires-clause-room : goal.add_marks-requires-clause-room
add_marks-requires-clause-room c i less =
    let e = total_below c.args.frame c.args.raster.now c.args.row c.args.col i c.requires.placed c.requires.row (omega (arith, less, c.marks_from.auto.out, c.requires.size, c.requires.cols)) in
    omega (arith, e, c.requires.counts)

pub add_marks-requires-clause-fits : goal.add_marks-requires-clause-fits
add_marks-requires-clause-fits c t less =
    let size : length c.marks_from.new.out ≡ c.args.count = c.marks_from.auto.out ∙ c.requires.size in
    let came = piece_comes c.args.frame c.args.raster.now c.args.row c.args.col c.args.count c.marks_from.new.out t c.requires.cols size (λ i under. c.marks_from.ensures.marks i (omega (arith, under, c.requires.size))) in
    let fit = c.requires.fits t less in
    omega (arith, ints, came, fit)

pub returns-else-at-eq0 : goal.returns-else-at-eq0
returns-else-at-eq0 c =
    let size : length c.marks_from.new.out ≡ c.args.count = c.marks_from.auto.out ∙ c.requires.size in
    piece_counts c.args.frame c.args.raster.now c.args.row c.args.col c.args.count c.marks_from.new.out c.args.counts.now c.add_marks.new.counts c.requires.cols size (λ i under. c.marks_from.ensures.marks i (omega (arith, under, c.requires.size))) c.add_marks.ensures
