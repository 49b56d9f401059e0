use Rattle.std.proofs.Common.{rules, ◌/◌, ◌<◌, ◌^◌, arith}
use Rattle.std.proofs.lemmas.Nat.{shr_below}
use Rattle.huff_codes.proofs.words.writing.bits_above.Goals as goal

pub overflow_cast-result-2 : goal.overflow_cast-result-2
overflow_cast-result-2 c =
    let below = shr_below c.args.held 32 c.args.count c.requires.low in
    let fits : c.args.held / 2 ^ c.args.count < 4294967296 = omega (arith, below) in
    search rules
