use Rattle.std.proofs.Common.{◌≡◌, ℤ, pos, ◌-ℤ◌, ◌≤ℤ◌, map, sym, ap, ◌∙◌, subst, arith}
use Rattle.std.specs.Prelude.{unsigned_abs}
use Rattle.std.proofs.lemmas.Int.{ints, to_z-of_z}
use Rattle.std.proofs.lemmas.List.Elements.{All-map}
use Rattle.std.proofs.lemmas.Simd.{map-map}
use mir.Syntax.{w64}
use Rattle.lane_kernels.specs.Kernels.{IsSmall}
use Rattle.micro_block.specs.inside.Products.{AreUpTo, rounded_steps}
use Rattle.micro_block.proofs.quantising.quantise.Goals as goal

up_to : (m v : ℤ) → IsSmall m → IsSmall v → m ≤ℤ v → (pos 0 ≤ℤ (v -ℤ m)) × ((v -ℤ m) ≤ℤ pos 8589934592)
up_to m v h k le = (omega (arith, ints, le), omega (arith, ints, h, k, le))

pub step_each-requires-clause-far : goal.step_each-requires-clause-far
step_each-requires-clause-far c =
    let values = c.args.values.now in
    let m = c.args.least in
    let less : c.minus.new.out ≡ map (λ v. v -ℤ m) values = c.minus.ensures ∙ ap (λ (x : ℤ). map (λ v. v -ℤ x) values) (to_z-of_z w64 m c.ranges.least) in
    subst (AreUpTo 8589934592) (sym less)
    (All-map (λ d. (pos 0 ≤ℤ d) × (d ≤ℤ pos 8589934592)) (λ v. v -ℤ m) values (λ k d lt. up_to m _ c.requires.small_least (c.requires.small k d lt) (c.requires.order k d lt)))

pub returns : goal.returns
returns c =
    let values = c.args.values.now in
    let m = c.args.least in
    let less : c.minus.new.out ≡ map (λ v. v -ℤ m) values = c.minus.ensures ∙ ap (λ (x : ℤ). map (λ v. v -ℤ x) values) (to_z-of_z w64 m c.ranges.least) in
    let steps : ℤ → ℤ = λ d. pos (rounded_steps c.args.step (unsigned_abs d)) in
    c.step_each.ensures ∙ ap (map steps) less ∙ map-map steps (λ v. v -ℤ m) values
