use Rattle.std.proofs.Common.{List, ℕ, get_or, ap, ◌∙◌, arith}
use Rattle.raster_cells.specs.Distance.{distance_of}
use Rattle.delta_mode.proofs.StartPieces.{first_predictor, upper_predictor}
use Rattle.delta_mode.proofs.starts.predictor_above.Goals.{then-place-cols, else-place-cols}
use Rattle.delta_mode.proofs.starts.predictor_above.Goals as goal

pub returns : goal.returns
returns g c =
    let r = g.V.View.pixels c.args.plane.now.raster.now in
    let sound = c.cols-cols.ensures.sound in
    elim c.if-place-cols.branch [
      | then-place-cols w ↦
          ap (λ (xs : List ℕ). get_or xs 0 0) w.above-is
          ∙ upper_predictor r c.args.plane.now.d c.args.place c.cols-cols.result w.gather_from.result c.args.last w.gather_from.new.out sound c.requires.left c.requires.last c.cols-cols.ensures.value w.if-place-cols.true w.gather_from.ensures.count w.gather_from.ensures.distances
      | else-place-cols w ↦
          ap (λ (xs : List ℕ). get_or xs 0 0) w.above-is ∙ c.requires.last
          ∙ ap (distance_of r.kind) (first_predictor r c.args.plane.now.d c.args.place sound c.requires.left (let off = w.if-place-cols.false in omega (arith, off, c.cols-cols.ensures.value)))
    ]
