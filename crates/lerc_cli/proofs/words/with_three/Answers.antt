use Rattle.std.proofs.Common.{rules}
use Rattle.lerc_cli.specs.inside.Spelling.{IsBuild, IsGetRaw, IsPut}
use Rattle.lerc_cli.proofs.WordLemmas.Spelled.{build_from, build_to, put_from, put_to, raw_from, raw_to, spelled_as}
use Rattle.lerc_cli.proofs.words.with_three.Goals as goal

pub returns-then-has_text : goal.returns-then-has_text
returns-then-has_text c =
    let named = c.if-has_text.ensures.0 (search rules) in
    spelled_as _ (IsBuild c.args.first.now c.args.second.now c.args.third.now) c.build_of.result c.build_of.ensures
    (build_to c.args.name.now c.args.first.now c.args.second.now c.args.third.now named) (build_from c.args.name.now c.args.first.now c.args.second.now c.args.third.now named)

pub returns-then-has_text-2 : goal.returns-then-has_text-2
returns-then-has_text-2 c =
    let named = c.if-has_text-2.ensures.0 (search rules) in
    spelled_as _ (IsPut c.args.first.now c.args.second.now c.args.third.now) c.put_of.result c.put_of.ensures
    (put_to c.args.name.now c.args.first.now c.args.second.now c.args.third.now named) (put_from c.args.name.now c.args.first.now c.args.second.now c.args.third.now named)

pub returns-then-has_text-4 : goal.returns-then-has_text-4
returns-then-has_text-4 c =
    let named = c.if-has_text-3.ensures.0 (search rules) in
    let is = c.if-has_text-4.ensures.0 (search rules) in
    spelled_as _ (IsGetRaw c.args.first.now c.args.second.now) c.get_raw_of.result c.get_raw_of.ensures
    (raw_to c.args.name.now c.args.first.now c.args.second.now c.args.third.now named is) (raw_from c.args.name.now c.args.first.now c.args.second.now c.args.third.now named)
