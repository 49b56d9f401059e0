use Rattle.std.proofs.Common.{rules}
use Rattle.level_cli.specs.inside.Spelling.{IsPut}
use Rattle.level_cli.proofs.Spelled.{five_words, put_to, spelled_as}
use Rattle.level_cli.proofs.words.with_four.Goals as goal

pub returns-then-has_text : goal.returns-then-has_text
returns-then-has_text c =
    let named = c.if-has_text.ensures.0 (search rules) in
    spelled_as _ (IsPut c.args.first.now c.args.second.now c.args.third.now c.args.fourth.now) c.put_of.result c.put_of.ensures
    (put_to c.args.name.now c.args.first.now c.args.second.now c.args.third.now c.args.fourth.now named) (λ x s. (five_words c.args.name.now c.args.first.now c.args.second.now c.args.third.now c.args.fourth.now x s).1)
