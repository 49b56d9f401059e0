use Rattle.std.proofs.Common.{◌≡◌, ℕ, ℤ, pos, ◌+ℤ◌, ◌≤ℤ◌, ◌<◌, sym, ◌∙◌, subst, arith}
use Rattle.std.proofs.lemmas.Int.{ints}
use mir.Syntax.{w64}
use mir.Val.{to_z, of_z}
use Rattle.raster_cells.specs.declared.kind.PixelType.{PixelType}
use Rattle.raster_cells.specs.PixelType.{InRange}
use Rattle.delta_mode.specs.Symbols.{IsByteType, bias}
use Rattle.delta_mode.specs.inside.Runs.{AreSteps}
use Rattle.delta_mode.proofs.Kernels.{same}
use Rattle.delta_mode.proofs.Runs.{lifts, bytes_fit, steps_symbols}
use Rattle.delta_mode.proofs.run.find_bytes.Goals as goal

sum : (kind : PixelType) (p : ℤ) (a : ℕ) → IsByteType kind → InRange kind p → a ≡ bias kind → to_z w64 (of_z w64 p) +ℤ pos a ≡ p +ℤ pos (bias kind)
sum kind p a byte fits e = λ t. same kind p byte fits t +ℤ pos (e t)

pub byte_above_least-first-requires-clause-low : goal.byte_above_least-first-requires-clause-low
byte_above_least-first-requires-clause-low c =
    subst (λ z. pos 0 ≤ℤ z) (sym (sum c.args.kind c.args.predictor c.bias_of-added.result c.requires.kind c.requires.predictor c.bias_of-added.ensures)) (lifts c.args.kind c.args.predictor c.requires.kind c.requires.predictor).0

pub byte_above_least-first-requires-clause-high : goal.byte_above_least-first-requires-clause-high
byte_above_least-first-requires-clause-high c =
    subst (λ z. z ≤ℤ pos 255) (sym (sum c.args.kind c.args.predictor c.bias_of-added.result c.requires.kind c.requires.predictor c.bias_of-added.ensures)) (lifts c.args.kind c.args.predictor c.requires.kind c.requires.predictor).1

pub returns-clause-in_range : goal.returns-clause-in_range
returns-clause-in_range c =
    let new = c.sum_bytes.new.symbols in
    let same_long = c.sum_bytes.auto.symbols in
    bytes_fit c.args.kind new c.requires.kind (λ k lt. (let is = c.sum_bytes.ensures k (omega (arith, lt, same_long)) in omega (arith, is)))

pub returns-clause-symbols : goal.returns-clause-symbols
returns-clause-symbols c =
    let kind = c.args.kind in
    let old = c.args.symbols.now in
    let new = c.sum_bytes.new.symbols in
    let first = c.byte_above_least-first.result in
    let e = c.bias_of-added.ensures in
    let lifted = lifts kind c.args.predictor c.requires.kind c.requires.predictor in
    let steps : AreSteps (bias kind) first old new = subst (λ (a : ℕ). AreSteps a first old new) e c.sum_bytes.ensures in
    let begins : pos first ≡ c.args.predictor +ℤ pos (bias kind) = c.byte_above_least-first.ensures ∙ sum kind c.args.predictor c.bias_of-added.result c.requires.kind c.requires.predictor e in
    let small : first < 256 = omega (arith, ints, begins, lifted.1) in
    steps_symbols kind first c.args.predictor old new c.requires.kind begins small c.are_bytes.ensures c.sum_bytes.auto.symbols steps
