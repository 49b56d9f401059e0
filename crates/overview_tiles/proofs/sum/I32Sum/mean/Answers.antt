use Rattle.std.proofs.Common.{rules, ◌≡◌, sym, subst, arith}
use Rattle.std.specs.Prelude.{pos, ◌*ℤ◌, ◌≤ℤ◌}
use Rattle.std.proofs.lemmas.Int.{ints}
use Rattle.overview_tiles.proofs.Divided.{four_below, six_below}
use Rattle.overview_tiles.proofs.sum.I32Sum.mean.Goals as goal

pub returns-in-3-clause-greatest : goal.returns-in-3-clause-greatest
returns-in-3-clause-greatest c greatest h =
    let here : c.args.self ≤ℤ (pos 3 *ℤ greatest) = subst (λ n. c.args.self ≤ℤ (pos n *ℤ greatest)) c.in-3.is h in
    let low : c.div_euclid-in-3.result ≤ℤ greatest = subst (λ z. z ≤ℤ greatest) (sym c.div_euclid-in-3.ensures) (six_below _ greatest (omega (arith, ints, here, c.requires.within.0, c.requires.within.1))) in
    search rules

pub returns-in_default-clause-least : goal.returns-in_default-clause-least
returns-in_default-clause-least c least h =
    let is : c.args.count ≡ 4 = search rules in
    let here : (pos 4 *ℤ least) ≤ℤ c.args.self = subst (λ n. (pos n *ℤ least) ≤ℤ c.args.self) is h in
    search rules

pub returns-in_default-clause-greatest : goal.returns-in_default-clause-greatest
returns-in_default-clause-greatest c greatest h =
    let is : c.args.count ≡ 4 = search rules in
    let here : c.args.self ≤ℤ (pos 4 *ℤ greatest) = subst (λ n. c.args.self ≤ℤ (pos n *ℤ greatest)) is h in
    let low : c.div_euclid-in_default.result ≤ℤ greatest = subst (λ z. z ≤ℤ greatest) (sym c.div_euclid-in_default.ensures) (four_below _ greatest (omega (arith, ints, here, c.requires.within.0, c.requires.within.1))) in
    search rules
