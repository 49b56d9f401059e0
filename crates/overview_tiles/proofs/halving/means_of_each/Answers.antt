use Rattle.std.proofs.Common.{rules, ◌≡◌, ◌≢◌, ◌<◌, ◌+◌, ◌*◌, length, get_or, map, ap, sym, subst, ◌∙◌, arith, ⊎_elim, w64, FitsSigned, to_z, of_z}
use Rattle.std.specs.Prelude.{pos, ◌*ℤ◌, ◌≤ℤ◌}
use Rattle.std.proofs.Math.ListN.{set}
use Rattle.std.proofs.lemmas.Bool.{cases_eq}
use Rattle.std.proofs.lemmas.Int.{to_z-of_z}
use Rattle.std.proofs.lemmas.List.{get_or_default, get_or-set_same, get_or-set_other}
use Rattle.raster_cells.specs.PixelType.{InRange, type_least, type_greatest}
use Rattle.raster_cells.proofs.ValueBits.{zero_in_range}
use Rattle.overview_tiles.specs.inside.Comes.{IsWithin}
use Rattle.overview_tiles.specs.inside.Means.{mean_at}
use Rattle.overview_tiles.proofs.Numbered.{number_at}
use Rattle.overview_tiles.proofs.Steps.{place_few}
use Rattle.overview_tiles.proofs.Tiled.{sum_bound}
use Rattle.overview_tiles.proofs.Filling.{mean_round}
use Rattle.overview_tiles.proofs.halving.means_of_each.Goals as goal

pub mean_or_zero-requires-clause-within : goal.mean_or_zero-requires-clause-within
mean_or_zero-requires-clause-within g c some =
    let i = c.loop-i.i in
    let k = c.args.place + i in
    let counts = c.args.counts.now in
    let N = g.S.Sum.number in
    let sums = map N c.args.sums.now in
    let under : k < length counts = omega (arith, c.loop-i-test.true, c.loop-i.auto.out, c.requires.within) in
    let room : k * c.args.depth + c.args.d < length c.args.sums.now = place_few k c.args.d (length counts) c.args.depth (length c.args.sums.now) under c.requires.depth c.requires.sums in
    let e = c.index-sums-place.result in
    let is = number_at N c.args.sums.now (k * c.args.depth + c.args.d) e room ∙ ap N (sym c.index-sums-place.is) in
    let small = sum_bound c.requires.bounded.0 (length counts) c.args.depth k c.args.d counts sums c.requires.bounded.1.1 under c.requires.depth some in
    subst (IsWithin (4 * g.S.Sum.reach)) is (subst (λ n. IsWithin (4 * n) (get_or sums (k * c.args.depth + c.args.d) (pos 0))) (sym c.requires.bounded.1.0) small)

pub loop-i-preserved : goal.loop-i-preserved
loop-i-preserved g c =
    let out = c.loop-i.out in
    let i = c.loop-i.i in
    let k = c.args.place + i in
    let counts = c.args.counts.now in
    let N = g.S.Sum.number in
    let sums = map N c.args.sums.now in
    let n = get_or counts k 0 in
    let x = get_or sums (k * c.args.depth + c.args.d) (pos 0) in
    let inside : i < length out = omega (arith, c.loop-i-test.true, c.loop-i.auto.out) in
    let under : k < length counts = omega (arith, inside, c.loop-i.auto.out, c.requires.within) in
    let room : k * c.args.depth + c.args.d < length c.args.sums.now = place_few k c.args.d (length counts) c.args.depth (length c.args.sums.now) under c.requires.depth c.requires.sums in
    let e = c.index-sums-place.result in
    let read : N e ≡ x = sym (number_at N c.args.sums.now (k * c.args.depth + c.args.d) e room ∙ ap N (sym c.index-sums-place.is)) in
    let z = c.mean_or_zero.result in
    let v = to_z w64 (of_z w64 z) in
    let fits : FitsSigned w64 z = search rules in
    let is : v ≡ z = to_z-of_z w64 z fits in
    let here : get_or (set out i v) i (pos 0) ≡ z = get_or-set_same out i v (pos 0) inside ∙ is in
    let mean : z ≡ mean_at c.args.depth counts sums c.args.d k = c.mean_or_zero.ensures.value ∙ mean_round n (N e) x (λ some. read) in
    record {
      values = λ j less. ⊎_elim
          (λ (same : j ≡ i).
          ap (λ m. get_or (set out i v) m (pos 0)) same ∙ here ∙ mean ∙ ap (λ m. mean_at c.args.depth counts sums c.args.d (c.args.place + m)) (sym same))
          (λ (ne : j ≢ i). get_or-set_other out i j v (pos 0) ne ∙ c.loop-i.invariant.values j (omega (arith, less, ne)))
          (cases_eq j i);
      in_range = λ kind h j less. ⊎_elim
          (λ (same : j ≡ i).
          let zero = zero_in_range kind in
          let low : 0 < n → (pos n *ℤ type_least kind) ≤ℤ N e = λ some. subst (λ y. (pos n *ℤ type_least kind) ≤ℤ y) (sym read) (h.least k c.args.d under c.requires.depth some) in
          let high : 0 < n → N e ≤ℤ (pos n *ℤ type_greatest kind) = λ some. subst (λ y. y ≤ℤ (pos n *ℤ type_greatest kind)) (sym read) (h.greatest k c.args.d under c.requires.depth some) in
          let value : InRange kind z = (c.mean_or_zero.ensures.least (type_least kind) zero.0 low, c.mean_or_zero.ensures.greatest (type_greatest kind) zero.1 high) in
          subst (InRange kind) (sym (ap (λ m. get_or (set out i v) m (pos 0)) same ∙ here)) value)
          (λ (ne : j ≢ i). subst (InRange kind) (sym (get_or-set_other out i j v (pos 0) ne)) (c.loop-i.invariant.in_range kind h j (omega (arith, less, ne))))
          (cases_eq j i);
    }

pub returns-clause-in_range : goal.returns-clause-in_range
returns-clause-in_range g c kind h k d less = subst (InRange kind) (get_or_default c.loop-i.out k (pos 0) d less) (c.loop-i.invariant.in_range kind h k (omega (arith, less, c.loop-i-test.false)))
