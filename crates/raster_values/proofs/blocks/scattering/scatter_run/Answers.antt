use Rattle.std.proofs.Common.{◌≡◌, ◌≤◌, ◌+◌, ◌-◌, ◌*◌, length, subst, ◌∙◌, arith}
use Rattle.std.proofs.Math.Nat.{mul-le-mul_right}
use Rattle.raster_values.specs.inside.Runs.{ScattersRun}
use Rattle.raster_values.proofs.ScatteredWords.{scatters_none, scatters_marked, scatters_join, marked_room, piece_room}
use Rattle.raster_values.proofs.Windows.{same_form, forms_join, still_of}
use Rattle.raster_values.proofs.blocks.scattering.scatter_run.Goals as goal

pub put_pixels_as-requires-clause-there : goal.put_pixels_as-requires-clause-there
put_pixels_as-requires-clause-there g c =
    marked_room (g.M.MarkSource.marks c.args.channel.now.marks.now) c.args.from c.args.count c.args.at (length (g.G.ValueSource.listed c.args.given.now)) (c.requires.all c.if-all.true) c.requires.room

pub put_pixels_as-requires-clause-within : goal.put_pixels_as-requires-clause-within
put_pixels_as-requires-clause-within g c =
    let up : (c.args.from + c.args.count) * c.args.channel.now.depth ≤ length (g.M.MarkSource.marks c.args.channel.now.marks.now) * c.args.channel.now.depth = mul-le-mul_right c.args.channel.now.depth c.requires.within in
    omega (arith, up, c.requires.values.size)

pub overflow_add-result : goal.overflow_add-result
overflow_add-result g c =
    let room = marked_room (g.M.MarkSource.marks c.args.channel.now.marks.now) c.args.from c.args.count c.args.at (length (g.G.ValueSource.listed c.args.given.now)) (c.requires.all c.if-all.true) c.requires.room in
    omega (arith, room, c.len.ensures, c.len.type_inv)

pub returns-then-all-clause-scattered : goal.returns-then-all-clause-scattered
returns-then-all-clause-scattered g c =
    let marks = g.M.MarkSource.marks c.args.channel.now.marks.now in
    let on = c.requires.all c.if-all.true in
    scatters_marked c.args.channel.now.depth c.args.channel.now.d marks (g.G.ValueSource.listed c.args.given.now) (g.V.CellStore.cells c.args.values.now).values (g.V.CellStore.cells c.put_pixels_as.new.cells).values c.args.from c.args.count c.args.at c.args.channel.now.below c.requires.within
    (marked_room marks c.args.from c.args.count c.args.at (length (g.G.ValueSource.listed c.args.given.now)) on c.requires.room) on c.put_pixels_as.ensures.put

pub loop-k-init : goal.loop-k-init
loop-k-init g c =
    let marks = g.M.MarkSource.marks c.args.channel.now.marks.now in
    let listed = g.G.ValueSource.listed c.args.given.now in
    let first = (g.V.CellStore.cells c.args.values.now).values in
    record {
      low = omega arith;
      high = omega arith;
      scattered = subst (λ m. ScattersRun c.args.channel.now.depth c.args.channel.now.d marks listed first first c.args.from m c.args.at c.args.at) (let e : 0 ≡ c.args.from - c.args.from = omega arith in e) (scatters_none c.args.channel.now.depth c.args.channel.now.d marks listed first c.args.from c.args.at);
      form = same_form (g.V.CellStore.cells c.args.values.now);
      kept = λ _. g.V.CellStore.kept c.args.values.now;
    }

pub scatter_word-n-requires-clause-values : goal.scatter_word-n-requires-clause-values
scatter_word-n-requires-clause-values g c = still_of c.args.channel.now.kind c.args.channel.now.depth (length (g.M.MarkSource.marks c.args.channel.now.marks.now)) (g.V.CellStore.cells c.args.values.now) (g.V.CellStore.cells c.loop-k.values) c.requires.values c.loop-k.invariant.form

pub scatter_word-n-requires-clause-within : goal.scatter_word-n-requires-clause-within
scatter_word-n-requires-clause-within g c = omega (arith, c.min-more.ensures, c.loop-k-test.true, c.requires.within)

pub scatter_word-n-requires-clause-room : goal.scatter_word-n-requires-clause-room
scatter_word-n-requires-clause-room g c =
    piece_room (g.M.MarkSource.marks c.args.channel.now.marks.now) c.args.from c.args.count c.args.at (length (g.G.ValueSource.listed c.args.given.now)) c.loop-k.k c.min-more.result c.loop-k.n c.loop-k.invariant.low
    (omega (arith, c.min-more.ensures, c.loop-k-test.true)) c.loop-k.invariant.scattered.ends c.requires.room

pub loop-k-preserved : goal.loop-k-preserved
loop-k-preserved g c =
    let marks = g.M.MarkSource.marks c.args.channel.now.marks.now in
    let listed = g.G.ValueSource.listed c.args.given.now in
    let first = (g.V.CellStore.cells c.args.values.now).values in
    let old = (g.V.CellStore.cells c.loop-k.values).values in
    let new = (g.V.CellStore.cells c.scatter_word-n.new.values).values in
    let inv = c.loop-k.invariant in
    let from = c.args.from in
    let k = c.loop-k.k in
    let more = c.min-more.result in
    let here : ScattersRun c.args.channel.now.depth c.args.channel.now.d marks listed old new (from + (k - from)) more c.loop-k.n c.scatter_word-n.result =
    subst (λ m. ScattersRun c.args.channel.now.depth c.args.channel.now.d marks listed old new m more c.loop-k.n c.scatter_word-n.result) (let e : k ≡ from + (k - from) = omega (arith, inv.low) in e) c.scatter_word-n.ensures.scattered in
    record {
      low = omega (arith, inv.low);
      high = omega (arith, c.min-more.ensures, c.loop-k-test.true);
      scattered = subst (λ m. ScattersRun c.args.channel.now.depth c.args.channel.now.d marks listed first new from m c.args.at c.scatter_word-n.result) (let e : k - from + more ≡ k + more - from = omega (arith, inv.low) in e)
          (scatters_join c.args.channel.now.depth c.args.channel.now.d marks listed first old new from (k - from) more c.args.at c.loop-k.n c.scatter_word-n.result c.args.channel.now.below inv.scattered here);
      form = forms_join (g.V.CellStore.cells c.args.values.now) (g.V.CellStore.cells c.loop-k.values) (g.V.CellStore.cells c.scatter_word-n.new.values) inv.form c.scatter_word-n.ensures.form;
      kept = c.scatter_word-n.ensures.kept ∙ inv.kept;
    }

pub returns-clause-scattered : goal.returns-clause-scattered
returns-clause-scattered g c =
    subst (λ m. ScattersRun c.args.channel.now.depth c.args.channel.now.d (g.M.MarkSource.marks c.args.channel.now.marks.now) (g.G.ValueSource.listed c.args.given.now) (g.V.CellStore.cells c.args.values.now).values (g.V.CellStore.cells c.loop-k.values).values c.args.from m c.args.at c.loop-k.n)
    (let e : c.loop-k.k - c.args.from ≡ c.args.count = omega (arith, c.loop-k.invariant.low, c.loop-k.invariant.high, c.loop-k-test.false) in e) c.loop-k.invariant.scattered
