use Rattle.std.proofs.Common.{arith}
use Rattle.huff_codes.proofs.words.prefixes.symbol_ahead.Goals as goal

pub returns-in-Some-clause-found : goal.returns-in-Some-clause-found
returns-in-Some-clause-found c left ahead = c.in-Some.ensures.found c.args.codes.now left c.requires ahead

pub returns-in-Some-clause-short : goal.returns-in-Some-clause-short
returns-in-Some-clause-short c = omega (arith, c.in-Some.ensures.short c.args.codes.now c.requires)
