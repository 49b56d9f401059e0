use Rattle.std.proofs.Common.{rules}
use Rattle.level_cli.specs.inside.Spelling.{IsName}
use Rattle.level_cli.proofs.Spelled.{name_to, spelled_as, three_words}
use Rattle.level_cli.proofs.words.with_two.Goals as goal

pub returns-then-has_text : goal.returns-then-has_text
returns-then-has_text c =
    let named = c.if-has_text.ensures.0 (search rules) in
    spelled_as _ (IsName c.args.first.now c.args.second.now) c.name_of.result c.name_of.ensures
    (name_to c.args.name.now c.args.first.now c.args.second.now named) (λ x s. (three_words c.args.name.now c.args.first.now c.args.second.now x s).1)
