use Rattle.std.proofs.Common.{rules, ◌≡◌, ◌≢◌, ◌+◌, ◌-◌, ◌/◌, ◌^◌, ◌<◌, ◌≤◌, get_or, set, sym, ap, ◌∙◌, subst, arith}
use Rattle.std.proofs.lemmas.List.{get_or-set_same, get_or-set_other}
use Rattle.std.specs.Prelude.{count_ones}
use Rattle.raster_values.specs.Flat.{value_in}
use Rattle.delta_mode.specs.Deltas.{is_valid, predictor}
use Rattle.delta_mode.specs.inside.Pieces.{rank}
use Rattle.delta_mode.specs.inside.Starts.{mark_of}
use Rattle.delta_mode.proofs.FullPieces.{pixels_few}
use Rattle.delta_mode.proofs.Gathered.{distance_small}
use Rattle.delta_mode.proofs.Marks.{value_in_range}
use Rattle.delta_mode.proofs.Pieces.{rank_below}
use Rattle.delta_mode.proofs.StartBits.{ones_before}
use Rattle.delta_mode.proofs.StartPieces.{own_last, predictor_in_range, start_symbol}
use Rattle.delta_mode.proofs.starts.write_start.Goals as goal

pub overflow_sub-before : goal.overflow_sub-before
overflow_sub-before g c =
    let ones = ones_before (g.V.View.pixels c.args.plane.now.raster.now) c.args.place c.args.count c.args.marks c.args.bit c.requires.marks c.requires.bit c.requires.valid in
    omega (arith, ones)

pub overflow_add-at : goal.overflow_add-at
overflow_add-at g c =
    let few = pixels_few (g.V.View.pixels c.args.plane.now.raster.now) c.kind.ensures.sound in
    let within = c.requires.within in
    let small : c.args.place + (c.args.count - 1 - c.args.bit) ≤ 16777216 = omega (arith, few, within) in
    search rules

pub bounds-distances-before : goal.bounds-distances-before
bounds-distances-before g c =
    let r = g.V.View.pixels c.args.plane.now.raster.now in
    let ones = ones_before r c.args.place c.args.count c.args.marks c.args.bit c.requires.marks c.requires.bit c.requires.valid in
    let below = rank_below (mark_of r c.args.place) (c.args.count - 1 - c.args.bit) c.args.count (omega (arith, c.requires.bit)) c.requires.valid in
    omega (arith, ones, below, c.requires.long)

pub predictor_above-predictor-requires-clause-last : goal.predictor_above-predictor-requires-clause-last
predictor_above-predictor-requires-clause-last g c =
    let r = g.V.View.pixels c.args.plane.now.raster.now in
    let i = c.args.count - 1 - c.args.bit in
    let ones = ones_before r c.args.place c.args.count c.args.marks c.args.bit c.requires.marks c.requires.bit c.requires.valid in
    let at : count_ones (c.args.marks / 2 ^ c.args.bit) - 1 ≡ rank (mark_of r c.args.place) i = omega (arith, ones) in
    ap (λ k. get_or c.args.distances.now k 0) at ∙ c.requires.last.each i (omega (arith, c.requires.bit))

pub bounds-distances-before-2 : goal.bounds-distances-before-2
bounds-distances-before-2 g c =
    let r = g.V.View.pixels c.args.plane.now.raster.now in
    let ones = ones_before r c.args.place c.args.count c.args.marks c.args.bit c.requires.marks c.requires.bit c.requires.valid in
    let below = rank_below (mark_of r c.args.place) (c.args.count - 1 - c.args.bit) c.args.count (omega (arith, c.requires.bit)) c.requires.valid in
    omega (arith, ones, below, c.requires.long)

pub symbol_between-requires-clause-here : goal.symbol_between-requires-clause-here
symbol_between-requires-clause-here g c =
    let r = g.V.View.pixels c.args.plane.now.raster.now in
    let i = c.args.count - 1 - c.args.bit in
    let ones = ones_before r c.args.place c.args.count c.args.marks c.args.bit c.requires.marks c.requires.bit c.requires.valid in
    let at : count_ones (c.args.marks / 2 ^ c.args.bit) - 1 + 1 ≡ rank (mark_of r c.args.place) i + 1 = omega (arith, ones) in
    let is = ap (λ k. get_or c.args.distances.now k 0) at ∙ own_last r c.args.plane.now.d c.args.place c.args.count i c.args.distances.now c.requires.last (omega (arith, c.requires.bit)) c.requires.valid in
    subst (λ n. n < 256) (sym is) (distance_small r.kind (value_in r c.args.plane.now.d (c.args.place + i)) c.args.plane.now.byte (value_in_range r c.args.plane.now.d (c.args.place + i) c.kind.ensures.sound))

pub symbol_between-requires-clause-before : goal.symbol_between-requires-clause-before
symbol_between-requires-clause-before g c =
    let r = g.V.View.pixels c.args.plane.now.raster.now in
    let k = c.args.place + (c.args.count - 1 - c.args.bit) in
    subst (λ n. n < 256) (sym c.predictor_above-predictor.ensures)
    (distance_small r.kind (predictor r.cols (is_valid r) (value_in r c.args.plane.now.d) k) c.args.plane.now.byte (predictor_in_range r c.args.plane.now.d k c.kind.ensures.sound))

pub bounds-out-before : goal.bounds-out-before
bounds-out-before g c =
    let r = g.V.View.pixels c.args.plane.now.raster.now in
    let ones = ones_before r c.args.place c.args.count c.args.marks c.args.bit c.requires.marks c.requires.bit c.requires.valid in
    let below = rank_below (mark_of r c.args.place) (c.args.count - 1 - c.args.bit) c.args.count (omega (arith, c.requires.bit)) c.requires.valid in
    omega (arith, ones, below, c.requires.room)

pub returns-clause-here : goal.returns-clause-here
returns-clause-here g c =
    let r = g.V.View.pixels c.args.plane.now.raster.now in
    let i = c.args.count - 1 - c.args.bit in
    let at = count_ones (c.args.marks / 2 ^ c.args.bit) - 1 in
    let s = c.symbol_between.result in
    let ones = ones_before r c.args.place c.args.count c.args.marks c.args.bit c.requires.marks c.requires.bit c.requires.valid in
    let below = rank_below (mark_of r c.args.place) i c.args.count (omega (arith, c.requires.bit)) c.requires.valid in
    let is : rank (mark_of r c.args.place) i ≡ at = omega (arith, ones) in
    let next : at + 1 ≡ rank (mark_of r c.args.place) i + 1 = omega (arith, is) in
    ap (λ k. get_or (set c.args.out.now at s) k 0) is ∙ get_or-set_same c.args.out.now at s 0 (omega (arith, ones, below, c.requires.room))
    ∙ start_symbol r c.args.plane.now.d c.args.place c.args.count i c.from-bias.result s c.predictor_above-predictor.result c.args.distances.now c.kind.ensures.sound c.args.plane.now.byte c.requires.last (omega (arith, c.requires.bit)) c.requires.valid
    (c.from-bias.ensures ∙ c.bias_of.ensures ∙ ap Rattle.delta_mode.specs.Symbols.bias c.kind.ensures.value) c.predictor_above-predictor.ensures
    (c.symbol_between.ensures ∙ ap (λ k. Rattle.delta_mode.specs.inside.Starts.between c.from-bias.result (get_or c.args.distances.now k 0) c.predictor_above-predictor.result) next)

pub returns-clause-others : goal.returns-clause-others
returns-clause-others g c = λ j ne.
    let r = g.V.View.pixels c.args.plane.now.raster.now in
    let at = count_ones (c.args.marks / 2 ^ c.args.bit) - 1 in
    let ones = ones_before r c.args.place c.args.count c.args.marks c.args.bit c.requires.marks c.requires.bit c.requires.valid in
    let other : j ≢ at = omega (arith, ones, ne) in
    get_or-set_other c.args.out.now at j c.symbol_between.result 0 other
