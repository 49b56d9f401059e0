use Rattle.std.proofs.Common.{rules}
use Rattle.level_cli.specs.inside.Spelling.{IsGet}
use Rattle.level_cli.proofs.Spelled.{four_words, get_to, spelled_as}
use Rattle.level_cli.proofs.words.with_three.Goals as goal

pub returns-then-has_text-2 : goal.returns-then-has_text-2
returns-then-has_text-2 c =
    let named = c.if-has_text.ensures.0 (search rules) in
    let is = c.if-has_text-2.ensures.0 (search rules) in
    spelled_as _ (IsGet c.args.first.now c.args.second.now) c.get_of.result c.get_of.ensures
    (get_to c.args.name.now c.args.first.now c.args.second.now c.args.third.now named is) (λ x s. (four_words c.args.name.now c.args.first.now c.args.second.now c.args.third.now x s).2)
