use Rattle.std.proofs.Common.{◌≡◌, ap, ◌∙◌, subst, arith, rules, to_z, of_z}
use Rattle.std.specs.Int.{int_min, int_max}
use Rattle.std.proofs.lemmas.Int.{ints, to_z-of_z}
use mir.Syntax.{w64}
use Rattle.raster_values.specs.inside.Runs.{IsRange}
use Rattle.raster_values.proofs.Ranges.{range_joined}
use Rattle.raster_values.proofs.blocks.ranging.wider.Goals as goal

pub returns-in-Some : goal.returns-in-Some
returns-in-Some c xs ys before least greatest =
    let a = c.in-Some.least in
    let b = c.in-Some.greatest in
    let m = c.args.more.0 in
    let n = c.args.more.1 in
    let h = subst (λ found. IsRange found xs) c.in-Some.is before in
    let la : to_z w64 (of_z w64 a) ≡ a = to_z-of_z w64 a (search rules) in
    let lb : to_z w64 (of_z w64 b) ≡ b = to_z-of_z w64 b (search rules) in
    let lm : to_z w64 (of_z w64 m) ≡ m = to_z-of_z w64 m (search rules) in
    let ln : to_z w64 (of_z w64 n) ≡ n = to_z-of_z w64 n (search rules) in
    let low : to_z w64 (of_z w64 c.min.result) ≡ int_min a m = to_z-of_z w64 c.min.result (omega (arith, ints)) ∙ c.min.ensures.value ∙ ap (λ z. int_min z (to_z w64 (of_z w64 m))) la ∙ ap (int_min a) lm in
    let high : to_z w64 (of_z w64 c.max.result) ≡ int_max b n = to_z-of_z w64 c.max.result (omega (arith, ints)) ∙ c.max.ensures.value ∙ ap (λ z. int_max z (to_z w64 (of_z w64 n))) lb ∙ ap (int_max b) ln in
    range_joined xs ys a b m n (to_z w64 (of_z w64 c.min.result)) (to_z w64 (of_z w64 c.max.result)) low high h.0 h.1 least greatest
