use Rattle.std.proofs.Common.{◌≡◌, ℕ, ◌+◌, ◌≤◌, length, take, drop, refl, sym, ap, subst, ◌∙◌, ◌++◌, arith}
use Rattle.std.proofs.lemmas.List.{length-take-le, length-append, length-drop}
use Rattle.raster_values.specs.inside.Runs.{IsRange, run_values}
use Rattle.raster_values.proofs.ScatteredWords.{values_join}
use Rattle.raster_values.proofs.blocks.ranging.range_by_pieces.Goals as goal

pub loop-k-init : goal.loop-k-init
loop-k-init c = record { within = omega arith; room = refl; range = refl }

pub slice_bounds-distances-end : goal.slice_bounds-distances-end
slice_bounds-distances-end c = omega (arith, c.min-more.ensures, c.loop-k.invariant.room)

pub range_in-here-requires-clause-within : goal.range_in-here-requires-clause-within
range_in-here-requires-clause-within c =
    let long = length-take-le c.min-more.result c.loop-k.distances (omega (arith, c.min-more.ensures, c.loop-k.invariant.room)) in
    omega (arith, long, c.min-more.ensures, c.loop-k-test.true, c.len-count.ensures)

pub loop-k-preserved : goal.loop-k-preserved
loop-k-preserved c =
    let p = c.args.plane.now in
    let inv = c.loop-k.invariant in
    let k = c.loop-k.k in
    let more = c.min-more.result in
    let vs : ℕ → ℕ → _ = λ from n. run_values p.depth p.d p.marks.now p.samples.now.values from n in
    let long : length (take more c.loop-k.distances) ≡ more = length-take-le more c.loop-k.distances (omega (arith, c.min-more.ensures, c.loop-k.invariant.room)) in
    let here : IsRange c.range_in-here.result (vs k more) = subst (λ n. IsRange c.range_in-here.result (vs k n)) long c.range_in-here.ensures in
    let at : 0 + k ≡ k = omega arith in
    record {
      within = omega (arith, c.min-more.ensures, c.loop-k-test.true);
      room = omega (arith, length-append c.range_in-here.new.out (drop more c.loop-k.distances), length-drop more c.loop-k.distances, long, c.range_in-here.auto.out, inv.room, c.min-more.ensures);
      range = subst (IsRange c.joined-found.result) (sym (values_join p.depth p.d p.marks.now p.samples.now.values 0 k more ∙ ap (λ n. vs 0 k ++ vs n more) at)) (c.joined-found.ensures (vs 0 k) (vs k more) inv.range here);
    }

pub returns : goal.returns
returns c =
    let p = c.args.plane.now in
    let whole : c.loop-k.k ≡ length p.marks.now = omega (arith, c.loop-k.invariant.within, c.loop-k-test.false, c.len-count.ensures) in
    subst (λ n. IsRange c.loop-k.found (run_values p.depth p.d p.marks.now p.samples.now.values 0 n)) whole c.loop-k.invariant.range
