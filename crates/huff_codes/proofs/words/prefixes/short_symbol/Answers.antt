use Rattle.std.proofs.Common.{◌/◌, ◌^◌, ◌<◌, sym, ◌∙◌, arith}
use Rattle.std.proofs.lemmas.Nat.{shr_below}
use Rattle.huff_codes.specs.Prefixes.{IsFront}
use Rattle.huff_codes.proofs.Prefixed.{ahead_byte, ahead_front, short_front}
use Rattle.huff_codes.proofs.words.prefixes.short_symbol.Goals as goal

pub returns-in-Symbol-clause-found : goal.returns-in-Symbol-clause-found
returns-in-Symbol-clause-found c codes left are ahead =
    let byte = c.args.next.word / 2 ^ 24 in
    let low : byte < 2 ^ 8 = shr_below c.args.next.word 8 24 (omega arith) in
    let front : IsFront codes byte c.in-Symbol.symbol c.in-Symbol.length = ((are.each byte low).symbol c.in-Symbol.symbol c.in-Symbol.length).0 (sym c.look.ensures ∙ c.in-Symbol.is) in
    ahead_front codes byte c.in-Symbol.symbol c.in-Symbol.length left front (ahead_byte c.args.next left ahead (omega (arith, c.if-next-lt8.false)))

pub returns-in-Symbol-clause-short : goal.returns-in-Symbol-clause-short
returns-in-Symbol-clause-short c codes are =
    let byte = c.args.next.word / 2 ^ 24 in
    let low : byte < 2 ^ 8 = shr_below c.args.next.word 8 24 (omega arith) in
    let front : IsFront codes byte c.in-Symbol.symbol c.in-Symbol.length = ((are.each byte low).symbol c.in-Symbol.symbol c.in-Symbol.length).0 (sym c.look.ensures ∙ c.in-Symbol.is) in
    short_front byte c.in-Symbol.length codes c.in-Symbol.symbol front
