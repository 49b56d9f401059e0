use Rattle.std.proofs.Common.{◌++◌, List, ℕ, length, take, drop, ap, ◌∙◌}
use Rattle.lerc_c.proofs.ReasonNames.{named, cut_name}
use Rattle.lerc_c.specs.Names.{name_at}
use Rattle.lerc_c.proofs.futskheri_reason_name.Goals as goal

pub returns-clause-name : goal.returns-clause-name
returns-clause-name c =
    let name = c.name_of-name.result.now in
    let out = c.args.out.now in
    ap (λ xs. xs ++ drop c.min-size.result out) c.copy_from_slice.ensures.after ∙ cut_name name out c.min-size.result c.min-size.ensures
    ∙ ap (λ (xs : List ℕ). take (length out) xs ++ drop (length name) out) c.name_of-name.ensures.name

pub returns-clause-reasons : goal.returns-clause-reasons
returns-clause-reasons c = λ r is. ap name_at is ∙ named r
