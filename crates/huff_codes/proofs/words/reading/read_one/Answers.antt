use Rattle.std.proofs.Common.{ℕ, ◌≡◌, ◌+◌, ◌<◌, List, [], ◌∷◌, ◌++◌, length, take, drop, slice_set, refl, sym, ap, ◌∙◌, subst, arith}
use Rattle.std.proofs.lemmas.List.{append_assoc, length-append, length-take-le, take_more_set}
use Rattle.huff_codes.specs.Bits.{word_bits}
use Rattle.huff_codes.specs.inside.Reading.{HaveReached}
use Rattle.huff_codes.proofs.Reading.{next_within, reach_more, stop_fault}
use Rattle.huff_codes.proofs.words.reading.read_one.Goals as goal

pub returns-in-Some-clause-ok : goal.returns-in-Some-clause-ok
returns-in-Some-clause-ok c =
    let next = c.in-Some.ensures.found (drop c.args.from.bit (word_bits c.args.bytes.now)) c.ahead-next.ensures in
    (refl, (omega (arith, c.in-Some.ensures.short), next_within c.args.codes.now c.args.bytes.now c.args.from.bit c.in-Some.found c.in-Some.length c.requires.within next))

pub returns-in-Some-clause-answer : goal.returns-in-Some-clause-answer
returns-in-Some-clause-answer c before h =
    let codes = c.args.codes.now in
    let bytes = c.args.bytes.now in
    let out = c.args.out.now in
    let bit = c.args.from.bit in
    let front = take c.args.from.count out in
    let s = c.in-Some.found in
    let next = c.in-Some.ensures.found (drop bit (word_bits bytes)) c.ahead-next.ensures in
    let more = reach_more codes bytes (before ++ front) bit s c.in-Some.length h next in
    let all : (before ++ front) ++ s ∷ [] ≡ before ++ take (c.args.from.count + 1) (slice_set out c.args.from.count s) =
    append_assoc before front (s ∷ []) ∙ ap (λ (xs : List ℕ). before ++ xs) (sym (take_more_set out c.args.from.count s c.requires.room)) in
    subst (λ (xs : List ℕ). HaveReached codes bytes xs (bit + c.in-Some.length)) all more

pub returns-in-None-clause-answer : goal.returns-in-None-clause-answer
returns-in-None-clause-answer c before h n most =
    let codes = c.args.codes.now in
    let bytes = c.args.bytes.now in
    let out = c.args.out.now in
    let front = take c.args.from.count out in
    let left = drop c.args.from.bit (word_bits bytes) in
    let stuck = c.in-None.ensures.found left c.ahead-next.ensures in
    let few : length (before ++ front) < n = omega (arith, length-append before front, length-take-le c.args.from.count out (omega arith), c.requires.room, most) in
    stop_fault codes bytes (before ++ front) c.args.from.bit n c.stop_at.result h few stuck (c.stop_at.ensures left c.ahead-next.ensures stuck)
