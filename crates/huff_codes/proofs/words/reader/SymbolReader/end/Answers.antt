use Rattle.std.proofs.Common.{◌+◌, ◌*◌, ◌/◌, length, refl, arith}
use Rattle.huff_codes.proofs.Reading.{are_words, end_fault}
use Rattle.huff_codes.proofs.words.reader.SymbolReader.end.Goals as goal

pub returns-clause-ok : goal.returns-clause-ok
returns-clause-ok c symbols h =
    let r = c.args.self.now in
    (c.if-used-self.false, are_words r.codes.now r.bytes.now symbols r.bit ((r.bit + 31) / 32 * 4 + 4) h refl c.if-used-self.false)

pub returns-then-used-self-clause-fault : goal.returns-then-used-self-clause-fault
returns-then-used-self-clause-fault c symbols h =
    let r = c.args.self.now in
    end_fault r.codes.now r.bytes.now symbols r.bit (length symbols) c.end_of_words.result h refl (omega (arith, c.if-used-self.true)) c.end_of_words.ensures
