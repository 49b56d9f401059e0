use Rattle.std.proofs.Common.{◌≡◌, ◌+◌, ◌-◌, ◌<◌, ◌^◌, subst, arith, refl}
use Rattle.huff_codes.proofs.Filling.{pending_more, pending_word}
use Rattle.huff_codes.proofs.words.writing.push.Goals as goal

pub returns-then-count-lt32-clause-pending : goal.returns-then-count-lt32-clause-pending
returns-then-count-lt32-clause-pending c = λ bits h.
    pending_more bits c.args.out.now c.args.pending.held c.args.pending.count c.args.pending.at c.args.code _ _ c.requires.code h refl (omega (arith, c.if-count-lt32.true)) c.append_bits-held.ensures.value

pub bits_above-requires : goal.bits_above-requires
bits_above-requires c =
    let low = c.requires.code.low in
    let sum : c.args.pending.count + c.args.code.length ≡ 32 + (c.args.pending.count + c.args.code.length - 32) = omega (arith, c.if-count-lt32.false) in
    record {
      few = omega (arith, c.args.pending.few, low);
      low = subst (λ n. c.append_bits-held.result < 2 ^ n) sum c.append_bits-held.ensures.low;
    }

pub returns-clause-pending : goal.returns-clause-pending
returns-clause-pending c = λ bits h.
    let rest = c.args.pending.count + c.args.code.length - 32 in
    pending_word bits c.args.out.now c.put_word.new.out c.args.pending.held c.args.pending.count c.args.pending.at c.args.code c.append_bits-held.result rest _ _ c.requires.code h c.append_bits-held.ensures.value
    (omega (arith, c.if-count-lt32.false)) (omega (arith, c.requires.room, c.if-count-lt32.false)) c.bits_above.ensures c.lowest_bits.ensures.value (let low = c.requires.code.low in omega (arith, c.args.pending.few, low)) c.put_word.auto.out c.put_word.ensures.front
