use Rattle.std.proofs.Common.{◌≡◌, List, length, ap, sym, subst, ◌∙◌, arith}
use Rattle.std.specs.Prelude.{replicate}
use Rattle.std.proofs.lemmas.List.{length-map}
use Rattle.std.proofs.lemmas.Result.{IfOk-weaker}
use Rattle.raster_values.specs.Bands.{AreBands}
use Rattle.overview_tiles.specs.Sums.{AreSums, IsTileOf, Kept}
use Rattle.overview_tiles.specs.Tiles.{AreHalf, Tiles}
use Rattle.overview_tiles.specs.inside.Numbers.{Numbers, kinds_of, sums_of}
use Rattle.overview_tiles.specs.inside.View.{seen}
use Rattle.overview_tiles.proofs.HalfBands.{EachHas, half_stands, half_takes, layers_have}
use Rattle.overview_tiles.proofs.mosaic.Mosaic.half.Goals as goal

pub half_bands-requires-clause-means : goal.half_bands-requires-clause-means
half_bands-requires-clause-means c b less = layers_have (seen c.self.inside) c.self.invariant.tiles (sums_of c.as_slice.result.now) b (ap sums_of c.as_slice.ensures.value) c.self.invariant.room c.self.invariant.sums (omega (arith, less, length-map c.as_slice.result.now (λ (n : Numbers). n.sums)))

pub half_bands-requires-clause-kinds : goal.half_bands-requires-clause-kinds
half_bands-requires-clause-kinds c = subst (λ (xs : List Numbers). kinds_of xs ≡ replicate (length xs) c.self.inside.kind) (sym c.as_slice.ensures.value) c.self.invariant.kinds

pub returns-clause-takes : goal.returns-clause-takes
returns-clause-takes c =
    let m : Kept = seen c.self.inside in
    let given = c.as_slice.result.now in
    let layers = sums_of given in
    let size : length layers ≡ length given = length-map given (λ (n : Numbers). n.sums) in
    IfOk-weaker c.half_bands.result (λ half. AreBands half × ((length half ≡ length given) × EachHas m.kind m.rows m.cols m.depth layers half)) (IsTileOf c.args.self)
    (λ half h. subst (λ (k : Kept). IsTileOf k half) c.self.view_is (half_takes m layers half (ap sums_of c.as_slice.ensures.value) (h.1.0 ∙ sym size) h.1.1)) c.half_bands.ensures

pub returns-clause-half : goal.returns-clause-half
returns-clause-half c =
    let m : Kept = seen c.self.inside in
    let given = c.as_slice.result.now in
    let layers = sums_of given in
    let size : length layers ≡ length given = length-map given (λ (n : Numbers). n.sums) in
    IfOk-weaker c.half_bands.result (λ half. AreBands half × ((length half ≡ length given) × EachHas m.kind m.rows m.cols m.depth layers half)) (λ half. (tiles : Tiles) → AreSums c.args.self tiles → AreHalf tiles half)
    (λ half h tiles sums. half_stands m tiles layers half (ap sums_of c.as_slice.ensures.value) (subst (λ (k : Kept). AreSums k tiles) (sym c.self.view_is) sums) h.0 (h.1.0 ∙ sym size) h.1.1) c.half_bands.ensures
