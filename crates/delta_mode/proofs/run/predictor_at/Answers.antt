use Rattle.std.proofs.Common.{◌≡◌, ◌+◌, ◌-◌, pos, false, sym, ap, ◌∙◌, arith}
use Rattle.raster_cells.specs.PixelType.{InRange}
use Rattle.raster_values.specs.Flat.{value_in}
use Rattle.delta_mode.specs.Deltas.{is_valid, predictor}
use Rattle.delta_mode.specs.inside.Pieces.{predicted_by, mark_at, value_of_place}
use Rattle.delta_mode.proofs.Kernels.{same}
use Rattle.delta_mode.proofs.Pieces.{predicted_has}
use Rattle.delta_mode.proofs.EvenPieces.{kept_predictor, bits_are, some_cols}
use Rattle.delta_mode.proofs.run.predictor_at.Goals as goal

pub returns-then-walk : goal.returns-then-walk
returns-then-walk g c =
    let r = (g.T.Target.pixels c.args.raster.now) in
    let walk = c.args.walk in
    same r.kind walk.last c.requires.kind c.requires.last_in_range
    ∙ sym (ap (λ b. predicted_by b false (pos 0) walk.last) c.if-walk.true)
    ∙ kept_predictor r.cols c.args.place (is_valid r) (value_in r c.args.d) walk.left false (pos 0) walk.last (some_cols c.args.place r.cols c.requires.across) c.requires.left c.requires.last (λ off. absurd (let on = c.if-walk.true in cc)) (λ off. absurd (let on = c.if-walk.true in cc))

pub returns : goal.returns
returns g c =
    let r = (g.T.Target.pixels c.args.raster.now) in
    let walk = c.args.walk in
    let up = mark_at c.read_above.new.up 0 in
    let above = value_of_place c.read_above.new.above 0 in
    let kind = r.kind in
    let fits = c.read_above.ensures.in_range 0 in
    let here : c.predict.result ≡ predicted_by false up above walk.last =
    c.predict.ensures ∙ (λ i. predicted_by false up (same kind above c.requires.kind fits i) (same kind walk.last c.requires.kind c.requires.last_in_range i)) in
    let first : c.args.place + 0 ≡ c.args.place = omega arith in
    let is : predicted_by walk.left up above walk.last ≡ predictor r.cols (is_valid r) (value_in r c.args.d) c.args.place =
    kept_predictor r.cols c.args.place (is_valid r) (value_in r c.args.d) walk.left up above walk.last (some_cols c.args.place r.cols c.requires.across) c.requires.left c.requires.last
    (λ off. c.read_above.ensures.up 0 (omega arith) ∙ ap (λ n. Rattle.delta_mode.specs.Deltas.has_upper r.cols (is_valid r) n) first)
    (λ off on. c.read_above.ensures.above 0 (omega arith) on ∙ ap (λ n. value_in r c.args.d (n - r.cols)) first) in
    let low : InRange kind (predicted_by false up above walk.last) = predicted_has (InRange kind) false up above walk.last fits c.requires.last_in_range in
    bits_are r.kind c.requires.kind low here ∙ sym (ap (λ b. predicted_by b up above walk.last) c.if-walk.false) ∙ is
