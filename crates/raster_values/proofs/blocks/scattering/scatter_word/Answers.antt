use Rattle.std.proofs.Common.{◌≤◌, ◌+◌, ◌*◌, length, arith}
use Rattle.std.proofs.Math.Nat.{mul-le-mul_right}
use Rattle.raster_cells.proofs.MarkWords.{word_all, word_none}
use Rattle.raster_values.proofs.ScatteredWords.{scatters_unmarked, scatters_marked, marked_room}
use Rattle.raster_values.proofs.blocks.scattering.scatter_word.Goals as goal

pub returns-then-word-eq0-clause-scattered : goal.returns-then-word-eq0-clause-scattered
returns-then-word-eq0-clause-scattered g c =
    let marks = g.M.MarkSource.marks c.args.channel.now.marks.now in
    scatters_unmarked c.args.channel.now.depth c.args.channel.now.d marks (g.G.ValueSource.listed c.args.given.now) (g.V.CellStore.cells c.args.values.now).values c.args.from c.args.count c.args.at c.args.channel.now.below c.requires.within (omega (arith, c.requires.room))
    (word_none marks c.args.from c.args.count c.word-word.result c.if-word-eq0.true c.word-word.ensures)

pub put_pixels_as-requires-clause-there : goal.put_pixels_as-requires-clause-there
put_pixels_as-requires-clause-there g c =
    let marks = g.M.MarkSource.marks c.args.channel.now.marks.now in
    marked_room marks c.args.from c.args.count c.args.at (length (g.G.ValueSource.listed c.args.given.now)) (word_all marks c.args.from c.args.count c.word-word.result c.requires.short c.if-word-count.true c.word-word.ensures) c.requires.room

pub put_pixels_as-requires-clause-within : goal.put_pixels_as-requires-clause-within
put_pixels_as-requires-clause-within g c =
    let up : (c.args.from + c.args.count) * c.args.channel.now.depth ≤ length (g.M.MarkSource.marks c.args.channel.now.marks.now) * c.args.channel.now.depth = mul-le-mul_right c.args.channel.now.depth c.requires.within in
    omega (arith, up, c.requires.values.size)

pub overflow_add-result : goal.overflow_add-result
overflow_add-result g c =
    let marks = g.M.MarkSource.marks c.args.channel.now.marks.now in
    let room = marked_room marks c.args.from c.args.count c.args.at (length (g.G.ValueSource.listed c.args.given.now)) (word_all marks c.args.from c.args.count c.word-word.result c.requires.short c.if-word-count.true c.word-word.ensures) c.requires.room in
    omega (arith, room, c.len.ensures, c.len.type_inv)

pub returns-then-word-count-clause-scattered : goal.returns-then-word-count-clause-scattered
returns-then-word-count-clause-scattered g c =
    let marks = g.M.MarkSource.marks c.args.channel.now.marks.now in
    let on = word_all marks c.args.from c.args.count c.word-word.result c.requires.short c.if-word-count.true c.word-word.ensures in
    scatters_marked c.args.channel.now.depth c.args.channel.now.d marks (g.G.ValueSource.listed c.args.given.now) (g.V.CellStore.cells c.args.values.now).values (g.V.CellStore.cells c.put_pixels_as.new.cells).values c.args.from c.args.count c.args.at c.args.channel.now.below c.requires.within
    (marked_room marks c.args.from c.args.count c.args.at (length (g.G.ValueSource.listed c.args.given.now)) on c.requires.room) on c.put_pixels_as.ensures.put
