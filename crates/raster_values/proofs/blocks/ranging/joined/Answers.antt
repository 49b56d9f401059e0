use Rattle.std.proofs.Common.{append-nil, sym, ap, ◌++◌, ◌∙◌, subst}
use Rattle.raster_values.specs.inside.Runs.{IsRange}
use Rattle.raster_values.proofs.blocks.ranging.joined.Goals as goal

pub returns-in-Some : goal.returns-in-Some
returns-in-Some c xs ys before behind =
    let here = subst (λ more. IsRange more ys) c.in-Some.is behind in
    c.wider.ensures xs ys before here.0 here.1

pub returns-in-None : goal.returns-in-None
returns-in-None c xs ys before behind =
    let none = subst (λ more. IsRange more ys) c.in-None.is behind in
    subst (IsRange c.args.found) (sym (ap (λ zs. xs ++ zs) none ∙ append-nil xs)) before
