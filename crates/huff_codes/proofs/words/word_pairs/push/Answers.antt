use Rattle.huff_codes.proofs.Pushing.{loose_push}
use Rattle.huff_codes.proofs.words.word_pairs.push.Goals as goal

pub returns-clause-pending : goal.returns-clause-pending
returns-clause-pending c = λ bits h.
    loose_push bits c.args.out.now c.put_word.new.out c.args.pending.held c.args.pending.count c.args.pending.at c.args.code.length c.args.code.number c.append_code-held.result c.word_above.result
    c.requires.small c.requires.low c.requires.room h c.append_code-held.ensures c.word_above.ensures c.put_word.auto.out c.put_word.ensures.front
