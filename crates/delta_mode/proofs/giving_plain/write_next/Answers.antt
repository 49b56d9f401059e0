use Rattle.std.proofs.Common.{rules, ◌≡◌, ◌+◌, ◌*◌, ◌/◌, ◌%◌, ◌<◌, ◌≤◌, ℕ, length, refl, ap, subst, arith, inl, inr}
use Rattle.std.proofs.lemmas.Bool.{cases_lt}
use Rattle.std.proofs.Math.Nat.{mul-le-mul_right}
use Rattle.raster_values.specs.Raster.{valid_count}
use Rattle.delta_mode.specs.Deltas.{is_valid}
use Rattle.delta_mode.specs.inside.Pieces.{rank}
use Rattle.delta_mode.proofs.FullPieces.{all_few}
use Rattle.delta_mode.proofs.Pieces.{rank_grows}
use Rattle.delta_mode.proofs.PlainPieces.{plain_next, plain_symbols}
use Rattle.delta_mode.proofs.WholeDepth.{rank_all}
use Rattle.delta_mode.proofs.giving_plain.write_next.Goals as goal

-- so many pixels' symbols have room
fits : (out depth count : ℕ) → 0 < depth → count ≤ out / depth → count * depth ≤ out
fits out depth count some le =
    let up : count * depth ≤ out / depth * depth = mul-le-mul_right depth le in
    let parts : out / depth * depth ≤ out = omega arith in
    omega (arith, up, parts)

one_at_least : (out depth : ℕ) → 0 < depth → depth ≤ out → 0 < out / depth
one_at_least out depth some le = elim (cases_lt 0 (out / depth)) [
  | inl yes_ ↦ yes_
  | inr no_ ↦
      let parts : out ≡ out / depth * depth + out % depth = omega arith in
      let low : out % depth < depth = omega (arith, some) in
      let none : out / depth ≡ 0 = omega (arith, no_) in
      let zero_ : out / depth * depth ≡ 0 * depth = ap (λ n. n * depth) none in
      let z : 0 * depth ≡ 0 = omega arith in
      absurd (omega (arith, parts, low, zero_, z, le))
]

pub write_plain-valid-requires-clause-within : goal.write_plain-valid-requires-clause-within
write_plain-valid-requires-clause-within g c =
    let r = g.V.View.pixels c.args.raster.now in
    let size : c.rows.result * c.cols.result ≡ r.rows * r.cols = λ i. c.rows.ensures.value i * c.cols.ensures.value i in
    let least = c.min-count.ensures in
    let place = c.requires.state.place in
    omega (arith, least, size, place)

pub write_plain-valid-requires-clause-room : goal.write_plain-valid-requires-clause-room
write_plain-valid-requires-clause-room g c =
    let r = g.V.View.pixels c.args.raster.now in
    let least = c.min-count.ensures in
    let inner = c.min.ensures in
    let deep : 0 < c.depth-depth.result = (let some = c.rows.ensures.sound.shape.depth_above in omega (arith, some, c.depth-depth.ensures.value)) in
    let room = fits (length c.args.out.now) c.depth-depth.result c.min-count.result deep (omega (arith, least, inner)) in
    subst (λ k. c.min-count.result * k ≤ length c.args.out.now) c.depth-depth.ensures.value room

pub returns-clause-state : goal.returns-clause-state
returns-clause-state g c =
    let r = g.V.View.pixels c.args.raster.now in
    let size : c.rows.result * c.cols.result ≡ r.rows * r.cols = λ i. c.rows.ensures.value i * c.cols.ensures.value i in
    let n = c.min-count.result in
    let least = c.min-count.ensures in
    let place = c.requires.state.place in
    let w = c.write_plain-valid in
    let given : c.args.state.given + w.result * c.depth-depth.result ≡ c.args.state.given + w.result * r.depth = ap (λ k. c.args.state.given + w.result * k) c.depth-depth.ensures.value in
    plain_next r c.args.state _ n w.result c.requires.state (omega (arith, least, size, place)) w.ensures.count refl given

pub returns-clause-few : goal.returns-clause-few
returns-clause-few g c =
    let least = c.min-count.ensures in
    let inner = c.min.ensures in
    let few = c.write_plain-valid.ensures.few in
    let deep : 0 < c.depth-depth.result = (let some = c.rows.ensures.sound.shape.depth_above in omega (arith, some, c.depth-depth.ensures.value)) in
    let room = fits (length c.args.out.now) c.depth-depth.result c.write_plain-valid.result deep (omega (arith, least, inner, few)) in
    omega (arith, room)

pub returns-clause-symbols : goal.returns-clause-symbols
returns-clause-symbols g c =
    let r = g.V.View.pixels c.args.raster.now in
    let size : c.rows.result * c.cols.result ≡ r.rows * r.cols = λ i. c.rows.ensures.value i * c.cols.ensures.value i in
    let n = c.min-count.result in
    let least = c.min-count.ensures in
    let place = c.requires.state.place in
    let w = c.write_plain-valid in
    let given : c.args.state.given + w.result * c.depth-depth.result ≡ c.args.state.given + w.result * r.depth = ap (λ k. c.args.state.given + w.result * k) c.depth-depth.ensures.value in
    plain_symbols r c.rows.ensures.sound c.args.state (record { place = c.args.state.place + n; given = c.args.state.given + w.result * c.depth-depth.result }) n w.result w.new.out c.requires.state
    (omega (arith, least, size, place)) w.ensures.count w.ensures.symbols given

pub returns-clause-later : goal.returns-clause-later
returns-clause-later g c =
    let r = g.V.View.pixels c.args.raster.now in
    let size : c.rows.result * c.cols.result ≡ r.rows * r.cols = λ i. c.rows.ensures.value i * c.cols.ensures.value i in
    let least = c.min-count.ensures in
    let inner = c.min.ensures in
    let depth = c.depth-depth.ensures.value in
    let deep : 0 < c.depth-depth.result = (let some = c.rows.ensures.sound.shape.depth_above in omega (arith, some, depth)) in
    let one = one_at_least (length c.args.out.now) c.depth-depth.result deep (omega (arith, c.requires.room, depth)) in
    omega (arith, one, least, inner, size, c.requires.more)

pub overflow_add-result-2 : goal.overflow_add-result-2
overflow_add-result-2 g c =
    let r = g.V.View.pixels c.args.raster.now in
    let sound = c.rows.ensures.sound in
    let size : c.rows.result * c.cols.result ≡ r.rows * r.cols = λ i. c.rows.ensures.value i * c.cols.ensures.value i in
    let n = c.min-count.result in
    let least = c.min-count.ensures in
    let place = c.requires.state.place in
    let w = c.write_plain-valid in
    let rank_is = w.ensures.count in
    let given : c.args.state.given + w.result * c.depth-depth.result ≡ c.args.state.given + w.result * r.depth = ap (λ k. c.args.state.given + w.result * k) c.depth-depth.ensures.value in
    let open_ : (rank (is_valid r) c.args.state.place + w.result) * r.depth ≡ rank (is_valid r) c.args.state.place * r.depth + w.result * r.depth = omega arith in
    let grows = rank_grows (is_valid r) (c.args.state.place + n) (r.rows * r.cols) (omega (arith, least, size, place)) in
    let all = rank_all r sound in
    let up : (rank (is_valid r) c.args.state.place + w.result) * r.depth ≤ valid_count r * r.depth = mul-le-mul_right r.depth (omega (arith, grows, all, rank_is)) in
    let most = all_few r sound in
    let before = c.requires.state.given in
    let small : c.args.state.given + w.result * c.depth-depth.result ≤ 16777216 = omega (arith, given, before, open_, up, most) in
    search rules
