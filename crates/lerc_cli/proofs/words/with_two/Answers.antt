use Rattle.std.proofs.Common.{rules}
use Rattle.lerc_cli.specs.inside.Spelling.{IsEncode, IsGet, IsSample}
use Rattle.lerc_cli.proofs.WordLemmas.Spelled.{encode_from, encode_to, get_from, get_to, sample_from, sample_to, spelled_as}
use Rattle.lerc_cli.proofs.words.with_two.Goals as goal

pub returns-then-has_text : goal.returns-then-has_text
returns-then-has_text c =
    let named = c.if-has_text.ensures.0 (search rules) in
    spelled_as _ (IsEncode c.args.first.now c.args.second.now) c.encode_of.result c.encode_of.ensures
    (encode_to c.args.name.now c.args.first.now c.args.second.now named) (encode_from c.args.name.now c.args.first.now c.args.second.now named)

pub returns-then-has_text-2 : goal.returns-then-has_text-2
returns-then-has_text-2 c =
    let named = c.if-has_text-2.ensures.0 (search rules) in
    spelled_as _ (IsGet c.args.first.now c.args.second.now) c.get_of.result c.get_of.ensures
    (get_to c.args.name.now c.args.first.now c.args.second.now named) (get_from c.args.name.now c.args.first.now c.args.second.now named)

pub returns-then-has_text-3 : goal.returns-then-has_text-3
returns-then-has_text-3 c =
    let named = c.if-has_text-3.ensures.0 (search rules) in
    spelled_as _ (IsSample c.args.first.now c.args.second.now) c.sample_of.result c.sample_of.ensures
    (sample_to c.args.name.now c.args.first.now c.args.second.now named) (sample_from c.args.name.now c.args.first.now c.args.second.now named)
