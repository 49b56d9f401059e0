use Rattle.std.proofs.Common.{◌≡◌, ℕ, ◌+◌, ◌-◌, ◌*◌, ◌<◌, ◌≤◌, ◌++◌, List, length, get_or, take, drop, refl, sym, ap, ◌∙◌, subst, arith}
use Rattle.std.proofs.lemmas.List.{take_at}
use Rattle.std.proofs.Math.Nat.{mul-le-mul_right}
use Rattle.raster_values.specs.Flat.{value_in}
use Rattle.delta_mode.specs.Deltas.{is_valid}
use Rattle.delta_mode.specs.PlainStates.{plain_before}
use Rattle.delta_mode.specs.inside.Pieces.{rank}
use Rattle.delta_mode.proofs.Bytewise.{rank_most}
use Rattle.delta_mode.proofs.Gathered.{distance_at, distances, distances_small, many, numbers_long, own_symbol, rank_more}
use Rattle.delta_mode.proofs.Marks.{value_in_range}
use Rattle.delta_mode.proofs.Pieces.{rank_below, rank_split}
use Rattle.delta_mode.proofs.PlainPieces.{plain_piece}
use Rattle.delta_mode.proofs.giving_plain.write_plain.Goals as goal

pub loop-d-init : goal.loop-d-init
loop-d-init g c = record { gathered = refl; room = refl; valid = λ e lt. absurd (omega (arith, lt)); done = λ e lt. absurd (omega (arith, lt)) }

pub scatter-requires-clause-bytes : goal.scatter-requires-clause-bytes
scatter-requires-clause-bytes g c = λ i.
    let r = g.V.View.pixels c.args.raster.now in
    let w = c.gather_from-valid in
    let all = distances r c.loop-d.d c.args.place c.args.count in
    let long : length all ≡ w.result = many r c.loop-d.d c.args.place c.args.count ∙ sym (numbers_long (is_valid r) c.args.place c.args.count) ∙ sym w.ensures.count in
    let is : take w.result w.new.out ≡ all = ap (take w.result) w.ensures.distances ∙ take_at all (drop w.result c.loop-d.gathered) w.result long in
    subst (λ (xs : List ℕ). get_or xs i 0 < 256) (sym is) (distances_small r c.loop-d.d c.args.place c.args.count i c.depth-depth.ensures.sound c.requires.kind)

pub returns-clause-count : goal.returns-clause-count
returns-clause-count g c =
    let r = g.V.View.pixels c.args.raster.now in
    let some = c.depth-depth.ensures.sound.shape.depth_above in
    let last = c.loop-d.invariant.valid 0 (omega (arith, some, c.depth-depth.ensures.value, c.loop-d-test.false)) in
    rank_more r c.args.place c.args.count ∙ ap (λ n. rank (is_valid r) c.args.place + n) (sym last)

pub returns-clause-few : goal.returns-clause-few
returns-clause-few g c =
    let r = g.V.View.pixels c.args.raster.now in
    let some = c.depth-depth.ensures.sound.shape.depth_above in
    let last = c.loop-d.invariant.valid 0 (omega (arith, some, c.depth-depth.ensures.value, c.loop-d-test.false)) in
    let most = rank_most (λ j. is_valid r (c.args.place + j)) c.args.count in
    let long = numbers_long (is_valid r) c.args.place c.args.count in
    omega (arith, last, most, long)

pub returns-clause-symbols : goal.returns-clause-symbols
returns-clause-symbols g c =
    let r = g.V.View.pixels c.args.raster.now in
    let sound = c.depth-depth.ensures.sound in
    let place = c.args.place in
    let n = c.args.count in
    let out = c.loop-d.out in
    let inv = c.loop-d.invariant in
    let end = c.loop-d-test.false in
    let value = c.depth-depth.ensures.value in
    let some = sound.shape.depth_above in
    let last = inv.valid 0 (omega (arith, some, value, end)) in
    let mark = λ (j : ℕ). is_valid r (place + j) in
    let long = numbers_long (is_valid r) place n in
    let more = rank_more r place n in
    let found : rank (is_valid r) (place + n) - rank (is_valid r) place ≡ c.loop-d.valid = omega (arith, more, last) in
    let up : c.loop-d.valid * r.depth ≤ n * r.depth = mul-le-mul_right r.depth (let most = rank_most mark n in omega (arith, last, most, long)) in
    let places = sound.places in
    plain_piece r sound place n n out (omega arith) (omega (arith, c.requires.within, places)) (subst (λ m. m * r.depth ≤ length out) (sym found) (omega (arith, up, c.requires.room, inv.room)))
    (λ i lt on e e_lt.
    let below = rank_below mark i n lt on in
    let at : rank (is_valid r) (place + i) - rank (is_valid r) place ≡ rank mark i = (let split = rank_split (is_valid r) place i in omega (arith, split)) in
    ap (λ m. get_or out (m * r.depth + e) 0) at ∙ ap (λ m. get_or out (rank mark i * m + e) 0) (sym value)
    ∙ inv.done e (omega (arith, e_lt, value, end)) (rank mark i) (omega (arith, below, long))
    ∙ distance_at r e place n i lt on ∙ sym (own_symbol r.kind (value_in r e (place + i)) c.requires.kind (value_in_range r e (place + i) sound)))
    ∙ ap (λ m. plain_before r place ++ take (m * r.depth) out) found
