use Rattle.std.proofs.Common.{◌≡◌, ◌+◌, ◌*◌, ◌≤◌, ◌++◌, ◌∷◌, [], ℕ, List, length, get_or, ap, sym, subst, ◌∙◌, arith}
use Rattle.std.specs.Prelude.{slice_get}
use Rattle.std.proofs.lemmas.List.{length_push}
use Rattle.raster_cells.specs.declared.kind.PixelType.{PixelType}
use Rattle.raster_values.specs.Raster.{Pixels}
use Rattle.overview_tiles.specs.Sums.{Sums, no_sums}
use Rattle.overview_tiles.specs.inside.Means.{HasMeans, HaveMeans}
use Rattle.overview_tiles.specs.inside.Numbers.{Numbers, sums_of}
use Rattle.overview_tiles.proofs.Bands.{kind_at, sums_at}
use Rattle.overview_tiles.proofs.HalfBands.{each_may_be, each_push}
use Rattle.overview_tiles.proofs.mosaic.half_bands.Goals as goal

-- ---- the first band

pub half-requires-clause-means : goal.half-requires-clause-means
half-requires-clause-means c =
    let layers = c.args.layers.now in
    let one = c.index-layers-0.result in
    let is : one ≡ get_or layers 0 one = c.index-layers-0.is in
    let kind : one.kind ≡ c.args.kind = ap (λ (n : Numbers). n.kind) is ∙ kind_at layers c.args.kind 0 one c.requires.kinds c.requires.some in
    let same : one.sums ≡ get_or (sums_of layers) 0 no_sums = ap (λ (n : Numbers). n.sums) is ∙ sym (sums_at layers 0 one c.requires.some) in
    subst (λ (k : PixelType). HaveMeans k (c.args.rows * c.args.cols) c.args.depth one.sums.counts one.sums.sums) (sym kind) (subst (λ (s : Sums). HaveMeans c.args.kind (c.args.rows * c.args.cols) c.args.depth s.counts s.sums) (sym same) (c.requires.means 0 c.requires.some))

-- ---- the others

pub half-requires-in-loop-b-clause-means : goal.half-requires-in-loop-b-clause-means
half-requires-in-loop-b-clause-means c =
    let layers = c.args.layers.now in
    let b = c.loop-b.b in
    let one = c.index-layers-b.result in
    let inside = c.loop-b-test.true in
    let is : one ≡ get_or layers b one = c.index-layers-b.is in
    let kind : one.kind ≡ c.args.kind = ap (λ (n : Numbers). n.kind) is ∙ kind_at layers c.args.kind b one c.requires.kinds inside in
    let same : one.sums ≡ get_or (sums_of layers) b no_sums = ap (λ (n : Numbers). n.sums) is ∙ sym (sums_at layers b one inside) in
    subst (λ (k : PixelType). HaveMeans k (c.args.rows * c.args.cols) c.args.depth one.sums.counts one.sums.sums) (sym kind) (subst (λ (s : Sums). HaveMeans c.args.kind (c.args.rows * c.args.cols) c.args.depth s.counts s.sums) (sym same) (c.requires.means b inside))

pub push-requires : goal.push-requires
push-requires c =
    let layers = c.args.layers.now in
    let b = c.loop-b.b in
    let half = c.loop-b.half in
    let band = c.in_ok-band.band in
    let one = c.index-layers-b.result in
    let inside = c.loop-b-test.true in
    let is : one ≡ get_or layers b one = c.index-layers-b.is in
    let kind : one.kind ≡ c.args.kind = ap (λ (n : Numbers). n.kind) is ∙ kind_at layers c.args.kind b one c.requires.kinds inside in
    let same : one.sums ≡ get_or (sums_of layers) b no_sums = ap (λ (n : Numbers). n.sums) is ∙ sym (sums_at layers b one inside) in
    let P : ℕ → Pixels → Type 0 = λ k r. HasMeans c.args.kind c.args.rows c.args.cols c.args.depth (get_or (sums_of layers) k no_sums) r in
    let here : P b band = subst (λ (s : Sums). HasMeans c.args.kind c.args.rows c.args.cols c.args.depth s band) same (subst (λ (k : PixelType). HasMeans k c.args.rows c.args.cols c.args.depth one.sums band) kind c.in_ok-band.ensures) in
    let last : P (length half) band = subst (λ k. P k band) (sym c.loop-b.invariant.count) here in
    each_may_be c.args.kind c.args.rows c.args.cols c.args.depth (length layers) (sums_of layers) (half ++ band ∷ []) c.requires.few c.requires.size
    (omega (arith, length_push half band, c.loop-b.invariant.count, c.loop-b-test.true)) (each_push P half band c.loop-b.invariant.each last)

pub loop-b-preserved : goal.loop-b-preserved
loop-b-preserved c =
    let layers = c.args.layers.now in
    let b = c.loop-b.b in
    let half = c.loop-b.half in
    let band = c.in_ok-band.band in
    let one = c.index-layers-b.result in
    let inside = c.loop-b-test.true in
    let is : one ≡ get_or layers b one = c.index-layers-b.is in
    let kind : one.kind ≡ c.args.kind = ap (λ (n : Numbers). n.kind) is ∙ kind_at layers c.args.kind b one c.requires.kinds inside in
    let same : one.sums ≡ get_or (sums_of layers) b no_sums = ap (λ (n : Numbers). n.sums) is ∙ sym (sums_at layers b one inside) in
    let P : ℕ → Pixels → Type 0 = λ k r. HasMeans c.args.kind c.args.rows c.args.cols c.args.depth (get_or (sums_of layers) k no_sums) r in
    let here : P b band = subst (λ (s : Sums). HasMeans c.args.kind c.args.rows c.args.cols c.args.depth s band) same (subst (λ (k : PixelType). HasMeans k c.args.rows c.args.cols c.args.depth one.sums band) kind c.in_ok-band.ensures) in
    let last : P (length half) band = subst (λ k. P k band) (sym c.loop-b.invariant.count) here in
    let new : c.push.new.self ≡ half ++ band ∷ [] = c.in_ok-push.ensures.ok in
    record {
      count = ap length new ∙ length_push half band ∙ ap (λ n. n + 1) c.loop-b.invariant.count;
      each = λ k r e. each_push P half band c.loop-b.invariant.each last k r (ap (λ (xs : List Pixels). slice_get xs k) (sym new) ∙ e);
    }

pub returns : goal.returns
returns c =
    let layers = c.args.layers.now in
    let half = c.loop-b.half in
    let high : c.loop-b.b ≤ length layers = c.loop-b.auto.b-end (omega (arith, c.requires.some)) in
    let count : length half ≡ length layers = omega (arith, c.loop-b.invariant.count, c.loop-b-test.false, high) in
    ((omega (arith, count, c.requires.some), each_may_be c.args.kind c.args.rows c.args.cols c.args.depth (length layers) (sums_of layers) half c.requires.few c.requires.size (omega (arith, count)) c.loop-b.invariant.each), (count, c.loop-b.invariant.each))
