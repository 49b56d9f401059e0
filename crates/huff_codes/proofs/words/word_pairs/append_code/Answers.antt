use Rattle.std.proofs.Common.{rules, ◌≡◌, ◌+◌, ◌-◌, ◌*◌, ◌%◌, ◌^◌, ◌<◌, sym, subst, arith}
use Rattle.huff_codes.proofs.Pushing.{shift_keeps, appended_fits}
use Rattle.huff_codes.proofs.words.word_pairs.append_code.Goals as goal

value_is : (c : goal.After-from) → c.args.held * 2 ^ c.args.code.length % 18446744073709551616 + c.from.result ≡ c.args.held % 2 ^ (64 - c.args.code.length) * 2 ^ c.args.code.length + c.args.code.number
value_is c = λ i. shift_keeps c.args.held c.args.code.length (omega (arith, c.requires.low)) i + c.from.ensures i

pub overflow_add-result : goal.overflow_add-result
overflow_add-result c =
    let fits : c.args.held * 2 ^ c.args.code.length % 18446744073709551616 + c.from.result < 18446744073709551616 =
    subst (λ x. x < 18446744073709551616) (sym (value_is c)) (appended_fits c.args.held c.args.code.length c.args.code.number (omega (arith, c.requires.low)) c.requires.small) in
    search rules

pub returns : goal.returns
returns c = value_is c
