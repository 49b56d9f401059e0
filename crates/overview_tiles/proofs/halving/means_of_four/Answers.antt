use Rattle.std.proofs.Common.{rules, ◌≡◌, ◌≢◌, ◌<◌, ◌≤◌, ◌+◌, ◌*◌, length, get_or, map, ap, sym, subst, ◌∙◌, arith, ⊎_elim, w64, FitsSigned, to_z, of_z}
use Rattle.std.specs.Prelude.{pos, ◌*ℤ◌, ◌≤ℤ◌}
use Rattle.std.proofs.Math.ListN.{set}
use Rattle.std.proofs.lemmas.Bool.{cases_eq}
use Rattle.std.proofs.lemmas.Int.{to_z-of_z}
use Rattle.std.proofs.lemmas.List.{get_or-set_same, get_or-set_other}
use Rattle.overview_tiles.specs.Half.{mean_of}
use Rattle.overview_tiles.specs.inside.Comes.{IsWithin}
use Rattle.overview_tiles.proofs.Numbered.{number_at}
use Rattle.overview_tiles.proofs.Steps.{le_times}
use Rattle.overview_tiles.proofs.halving.means_of_four.Goals as goal

pub overflow_add-place : goal.overflow_add-place
overflow_add-place g c =
    let place = c.args.place + c.loop-i.i in
    let room = c.requires.room c.loop-i.i (omega (arith, c.loop-i-test.true, c.loop-i.auto.out)) in
    let more : place ≤ place * c.args.depth = le_times place c.args.depth (omega (arith, c.requires.depth)) in
    omega (arith, room, more, c.requires.small)

pub mean-requires-clause-within : goal.mean-requires-clause-within
mean-requires-clause-within g c =
    let i = c.loop-i.i in
    let less : i < length c.args.out.now = omega (arith, c.loop-i-test.true, c.loop-i.auto.out) in
    let N = g.S.Sum.number in
    let e = c.index-sums-place.result in
    let is = number_at N c.args.sums.now ((c.args.place + i) * c.args.depth + c.args.d) e (c.requires.room i less) ∙ ap N (sym c.index-sums-place.is) in
    subst (IsWithin (4 * g.S.Sum.reach)) is (c.requires.within i less)

pub loop-i-preserved : goal.loop-i-preserved
loop-i-preserved g c =
    let out = c.loop-i.out in
    let i = c.loop-i.i in
    let N = g.S.Sum.number in
    let sums = map N c.args.sums.now in
    let inside : i < length out = omega (arith, c.loop-i-test.true, c.loop-i.auto.out) in
    let less : i < length c.args.out.now = omega (arith, inside, c.loop-i.auto.out) in
    let x = get_or sums ((c.args.place + i) * c.args.depth + c.args.d) (pos 0) in
    let e = c.index-sums-place.result in
    let is : x ≡ N e = number_at N c.args.sums.now ((c.args.place + i) * c.args.depth + c.args.d) e (c.requires.room i less) ∙ ap N (sym c.index-sums-place.is) in
    let z = c.mean.result in
    let v = to_z w64 (of_z w64 z) in
    let fits : FitsSigned w64 z = search rules in
    let here : get_or (set out i v) i (pos 0) ≡ z = get_or-set_same out i v (pos 0) inside ∙ to_z-of_z w64 z fits in
    let value : z ≡ mean_of x (pos 4) = c.mean.ensures.value ∙ ap (λ y. mean_of y (pos 4)) (sym is) in
    record {
      values = λ j low. ⊎_elim
          (λ (same : j ≡ i).
          ap (λ m. get_or (set out i v) m (pos 0)) same ∙ here ∙ value ∙ ap (λ m. mean_of (get_or sums ((c.args.place + m) * c.args.depth + c.args.d) (pos 0)) (pos 4)) (sym same))
          (λ (ne : j ≢ i). get_or-set_other out i j v (pos 0) ne ∙ c.loop-i.invariant.values j (omega (arith, low, ne)))
          (cases_eq j i);
      least = λ j least low above. ⊎_elim
          (λ (same : j ≡ i).
          let there : (pos 4 *ℤ least) ≤ℤ N e = subst (λ y. (pos 4 *ℤ least) ≤ℤ y) (ap (λ m. get_or sums ((c.args.place + m) * c.args.depth + c.args.d) (pos 0)) same ∙ is) above in
          subst (λ y. least ≤ℤ y) (sym (ap (λ m. get_or (set out i v) m (pos 0)) same ∙ here)) (c.mean.ensures.least least there))
          (λ (ne : j ≢ i). subst (λ y. least ≤ℤ y) (sym (get_or-set_other out i j v (pos 0) ne)) (c.loop-i.invariant.least j least (omega (arith, low, ne)) above))
          (cases_eq j i);
      greatest = λ j greatest low below. ⊎_elim
          (λ (same : j ≡ i).
          let there : N e ≤ℤ (pos 4 *ℤ greatest) = subst (λ y. y ≤ℤ (pos 4 *ℤ greatest)) (ap (λ m. get_or sums ((c.args.place + m) * c.args.depth + c.args.d) (pos 0)) same ∙ is) below in
          subst (λ y. y ≤ℤ greatest) (sym (ap (λ m. get_or (set out i v) m (pos 0)) same ∙ here)) (c.mean.ensures.greatest greatest there))
          (λ (ne : j ≢ i). subst (λ y. y ≤ℤ greatest) (sym (get_or-set_other out i j v (pos 0) ne)) (c.loop-i.invariant.greatest j greatest (omega (arith, low, ne)) below))
          (cases_eq j i);
    }
