use Rattle.std.proofs.Common.{arith}
use Rattle.huff_codes.proofs.Filling.{flushed_none, flushed_word}
use Rattle.huff_codes.proofs.words.writing.flush.Goals as goal

pub returns-clause-flushed : goal.returns-clause-flushed
returns-clause-flushed c = λ bits h.
    let whole = h.whole in
    flushed_word bits c.args.out.now c.put_word.new.out c.args.pending.held c.args.pending.count c.args.pending.at c.bits_at_top.result h
    (omega (arith, c.requires.room, c.requires.words, c.args.pending.whole, c.if-pending-eq0.false)) c.bits_at_top.ensures c.put_word.auto.out c.put_word.ensures.front

pub returns-then-pending-eq0-clause-flushed : goal.returns-then-pending-eq0-clause-flushed
returns-then-pending-eq0-clause-flushed c = λ bits h. flushed_none bits c.args.out.now c.args.pending.held c.args.pending.count c.args.pending.at c.if-pending-eq0.true h
