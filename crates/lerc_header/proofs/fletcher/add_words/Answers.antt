use Rattle.std.proofs.Common.{◌≡◌, ◌<◌, ◌+◌, ◌*◌, length, take, sum, arith, ap, ◌∙◌}
use Rattle.std.proofs.lemmas.List.{take_all}
use Rattle.lerc_header.specs.Checksum.{words, weighted}
use Rattle.lerc_header.proofs.Words.{length-words, first_more, weighted_more}
use Rattle.lerc_header.proofs.fletcher.add_words.Goals as goal

pub overflow_add-sum2 : goal.overflow_add-sum2
overflow_add-sum2 c =
    omega (arith, c.loop-i.invariant.small1, c.loop-i.invariant.small2, c.word_at-sum1.ensures.small)

pub loop-i-preserved : goal.loop-i-preserved
loop-i-preserved c =
    let ws = words c.args.bytes.now in
    let within : c.loop-i.i < length ws = omega (arith, length-words c.args.bytes.now) in
    record {
      first = ap (λ n. n + c.word_at-sum1.result) c.loop-i.invariant.first ∙ first_more ws c.loop-i.i c.args.first c.word_at-sum1.result within c.word_at-sum1.ensures.value;
      second = omega (arith, c.loop-i.invariant.first, c.loop-i.invariant.second, weighted_more ws c.loop-i.i c.word_at-sum1.result within c.word_at-sum1.ensures.value);
      small1 = omega (arith, c.loop-i.invariant.small1, c.word_at-sum1.ensures.small);
      small2 = omega (arith, c.loop-i.invariant.small1, c.loop-i.invariant.small2, c.word_at-sum1.ensures.small);
    }

pub returns-clause-first : goal.returns-clause-first
returns-clause-first c =
    let all : take c.loop-i.i (words c.args.bytes.now) ≡ words c.args.bytes.now = take_all _ _ (omega (arith, length-words c.args.bytes.now)) in
    c.loop-i.invariant.first ∙ ap (λ ws. c.args.first + sum ws) all

pub returns-clause-second : goal.returns-clause-second
returns-clause-second c =
    let all : take c.loop-i.i (words c.args.bytes.now) ≡ words c.args.bytes.now = take_all _ _ (omega (arith, length-words c.args.bytes.now)) in
    let count : c.loop-i.i ≡ length (words c.args.bytes.now) = omega (arith, length-words c.args.bytes.now) in
    c.loop-i.invariant.second ∙ ap (λ ws. c.args.second + c.loop-i.i * c.args.first + weighted ws) all ∙ ap (λ n. c.args.second + n * c.args.first + weighted (words c.args.bytes.now)) count
