use Rattle.std.proofs.Common.{rules, ◌-◌, ◌*◌, ◌%◌, ◌<◌, ◌^◌, sym, subst, arith}
use Rattle.huff_codes.proofs.Filling.{shifted, topmost_fits}
use Rattle.huff_codes.proofs.words.writing.bits_at_top.Goals as goal

pub returns : goal.returns
returns c = shifted c.args.held (32 - c.args.count) c.args.count c.requires.low (omega (arith, c.requires.few))

pub overflow_cast-result-2 : goal.overflow_cast-result-2
overflow_cast-result-2 c =
    let fits : c.args.held * 2 ^ (32 - c.args.count) % 18446744073709551616 < 4294967296 =
    subst (λ x. x < 4294967296) (sym (shifted c.args.held (32 - c.args.count) c.args.count c.requires.low (omega (arith, c.requires.few)))) (topmost_fits c.args.held c.args.count c.requires.low c.requires.few) in
    search rules
