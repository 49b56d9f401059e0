use Rattle.std.proofs.Common.{inl, inr}
use Rattle.command_words.proofs.OneWord.{in_limits, no_limits, past_limits}
use Rattle.command_words.proofs.number.number_within.Goals as goal

pub returns-in-Some : goal.returns-in-Some
returns-in-Some c = in_limits c.args.word.now c.number.result c.in-Some.n c.args.least c.args.greatest c.in-Some.is c.number.ensures c.if-n-least.true c.if-n-greatest.true

pub returns-in_default : goal.returns-in_default
returns-in_default c = past_limits c.args.word.now c.number.result c.in-Some.n c.args.least c.args.greatest c.in-Some.is c.number.ensures (inr c.if-n-greatest.false)

pub returns-in_default-2 : goal.returns-in_default-2
returns-in_default-2 c = past_limits c.args.word.now c.number.result c.in-Some.n c.args.least c.args.greatest c.in-Some.is c.number.ensures (inl c.if-n-least.false)

pub returns-in_default-3 : goal.returns-in_default-3
returns-in_default-3 c = no_limits c.args.word.now c.number.result c.args.least c.args.greatest c.in_default.is c.number.ensures
