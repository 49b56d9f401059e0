use Rattle.std.proofs.Common.{◌≡◌, ℕ, List, [], length, take, sym, ap, ◌∙◌, subst, arith}
use Rattle.std.proofs.lemmas.List.{length-take-le, take_all}
use Rattle.delta_mode.specs.Deltas.{TakesDeltas}
use Rattle.delta_mode.proofs.taking.undelta.Goals as goal

pub returns-in-Ok-clause-taken : goal.returns-in-Ok-clause-taken
returns-in-Ok-clause-taken g c =
    let old = g.T.Target.pixels c.args.raster.now in
    let new = g.T.Target.pixels c.undelta_from.new.raster in
    let end = c.undelta_from.new.source in
    let given = c.in-Ok.ensures.taken [] c.of-source.ensures.none in
    let same : end.symbols.now ≡ c.args.symbols.now = c.in-Ok.ensures.sources ∙ c.of-source.ensures.list in
    let is : given.0 ≡ take end.at end.symbols.now = given.1.0 in
    let long : length given.0 ≡ length end.symbols.now = given.1.1.0 ∙ sym c.requires.count ∙ ap length (sym same) in
    let within = c.in-Ok.ensures.ready in
    let all : given.0 ≡ c.args.symbols.now = is ∙ take_all end.at end.symbols.now (omega (arith, ap length is, length-take-le end.at end.symbols.now within, long)) ∙ same in
    subst (λ (xs : List ℕ). TakesDeltas old new c.args.d xs) all given.1.1.1

pub returns-in-Err-clause-taken : goal.returns-in-Err-clause-taken
returns-in-Err-clause-taken g c = absurd c.in-Err.ensures.stop
