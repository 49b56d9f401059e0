use Rattle.std.proofs.Common.{◌≡◌, ◌≢◌, ◌<◌, List, length, get_or, ap, sym, subst, ◌∙◌, arith, ⊎_elim}
use Rattle.std.specs.Prelude.{slice_get, Some}
use Rattle.std.proofs.Math.ListN.{set}
use Rattle.std.proofs.Math.Seq.{map-set_same}
use Rattle.std.proofs.lemmas.Bool.{cases_eq}
use Rattle.std.proofs.lemmas.Option.{get_or_from_slice_get, slice_get_within}
use Rattle.std.proofs.lemmas.List.{get_or-set_same, get_or-set_other, length-map, map-set}
use Rattle.raster_values.specs.Raster.{Pixels}
use Rattle.raster_cells.specs.declared.kind.PixelType.{PixelType}
use Rattle.overview_tiles.specs.Sums.{Sums, no_sums}
use Rattle.overview_tiles.specs.inside.Lays.{CanLay, LaysAll}
use Rattle.overview_tiles.specs.inside.Numbers.{Numbers, sums_of}
use Rattle.overview_tiles.proofs.Bands.{kind_there, sums_at}
use Rattle.overview_tiles.proofs.mosaic.lay_bands.Goals as goal

pub lay-requires-clause-kind : goal.lay-requires-clause-kind
lay-requires-clause-kind c =
    let layers = c.loop-b.layers in
    let b = c.loop-b.b in
    let r = c.at.result.now in
    let inside : b < length layers = omega (arith, c.loop-b-test.true, c.loop-b.auto.layers) in
    kind_there layers b c.index-layers-b.result r.kind inside (ap (λ (ks : List PixelType). slice_get ks b) c.loop-b.invariant.kinds ∙ c.requires.kinds b r c.at.ensures)

pub lay-requires-clause-fits : goal.lay-requires-clause-fits
lay-requires-clause-fits c =
    let layers = c.loop-b.layers in
    let b = c.loop-b.b in
    let one = c.index-layers-b.result in
    let inside : b < length layers = omega (arith, c.loop-b-test.true, c.loop-b.auto.layers) in
    let same : (get_or layers b one).sums ≡ get_or (sums_of c.args.layers.now) b no_sums = sym (sums_at layers b one inside) ∙ c.loop-b.invariant.rest b (omega arith) in
    subst (CanLay c.args.frame c.at.result.now) (sym same) (c.requires.each b c.at.result.now c.at.ensures)

pub loop-b-preserved : goal.loop-b-preserved
loop-b-preserved c =
    let f = c.args.frame in
    let first = sums_of c.args.layers.now in
    let layers = c.loop-b.layers in
    let ss = sums_of layers in
    let b = c.loop-b.b in
    let one = c.index-layers-b.result in
    let new : Numbers = c.lay.new.self in
    let inside : b < length layers = omega (arith, c.loop-b-test.true, c.loop-b.auto.layers) in
    let there' : b < length ss = omega (arith, inside, length-map layers (λ (n : Numbers). n.sums)) in
    let moved : sums_of (set layers b new) ≡ set ss b new.sums = map-set (λ (n : Numbers). n.sums) layers b new in
    let same : (get_or layers b one).sums ≡ get_or first b no_sums = sym (sums_at layers b one inside) ∙ c.loop-b.invariant.rest b (omega arith) in
    let laid : LaysAll f c.at.result.now (get_or first b no_sums) new.sums = subst (λ (s : Sums). LaysAll f c.at.result.now s new.sums) same c.lay.ensures.sums in
    record {
      kinds = map-set_same (λ (n : Numbers). n.kind) layers b new one c.lay.ensures.kind ∙ c.loop-b.invariant.kinds;
      done = λ k r less e. subst (λ (xs : List Sums). LaysAll f r (get_or first k no_sums) (get_or xs k no_sums)) (sym moved)
          (⊎_elim
          (λ (at : k ≡ b).
          let there : slice_get c.args.tile.now b ≡ Some r = ap (slice_get c.args.tile.now) (sym at) ∙ e in
          let is : c.at.result.now ≡ r = sym (get_or_from_slice_get c.args.tile.now b c.at.result.now r c.at.ensures) ∙ get_or_from_slice_get c.args.tile.now b r r there in
          let now : get_or (set ss b new.sums) k no_sums ≡ new.sums = ap (λ j. get_or (set ss b new.sums) j no_sums) at ∙ get_or-set_same ss b new.sums no_sums there' in
          let was : get_or first k no_sums ≡ get_or first b no_sums = ap (λ j. get_or first j no_sums) at in
          subst (λ (s : Sums). LaysAll f r s (get_or (set ss b new.sums) k no_sums)) (sym was) (subst (LaysAll f r (get_or first b no_sums)) (sym now) (subst (λ (p : Pixels). LaysAll f p (get_or first b no_sums) new.sums) is laid)))
          (λ (ne : k ≢ b). subst (LaysAll f r (get_or first k no_sums)) (sym (get_or-set_other ss b k new.sums no_sums ne)) (c.loop-b.invariant.done k r (omega (arith, less, ne)) e))
          (cases_eq k b));
      rest = λ k low. ap (λ (xs : List Sums). get_or xs k no_sums) moved ∙ get_or-set_other ss b k new.sums no_sums (λ e. omega (arith, low, e)) ∙ c.loop-b.invariant.rest k (omega (arith, low));
    }

pub returns-clause-each : goal.returns-clause-each
returns-clause-each c b r e = c.loop-b.invariant.done b r (omega (arith, slice_get_within c.args.tile.now b r e, c.requires.count, c.loop-b-test.false, c.loop-b.auto.layers)) e
