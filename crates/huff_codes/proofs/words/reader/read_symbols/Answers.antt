use Rattle.std.proofs.Common.{ℕ, length, subst}
use Rattle.huff_codes.specs.Words.{AreWords, word_faults}
use Rattle.huff_codes.proofs.Answered.{IsAnswered, answer_complete, answer_fault}
use Rattle.huff_codes.proofs.WordLaws.{words_part}
use Rattle.huff_codes.proofs.words.reader.read_symbols.Goals as goal

pub returns-clause-complete : goal.returns-clause-complete
returns-clause-complete c =
    let codes = c.args.codes.now in
    let n = length c.args.out.now in
    let h = subst (λ (n : ℕ). IsAnswered (AreWords codes n) (word_faults codes n) c.args.bytes.now c.read_all.new.out c.read_all.result) c.read_all.auto.out c.read_all.ensures in
    answer_complete (AreWords codes n) (word_faults codes n) c.args.bytes.now c.read_all.new.out c.read_all.result (words_part codes n c.know.ensures.free) h

pub returns-clause-fault : goal.returns-clause-fault
returns-clause-fault c =
    let codes = c.args.codes.now in
    let n = length c.args.out.now in
    let h = subst (λ (n : ℕ). IsAnswered (AreWords codes n) (word_faults codes n) c.args.bytes.now c.read_all.new.out c.read_all.result) c.read_all.auto.out c.read_all.ensures in
    answer_fault (AreWords codes n) (word_faults codes n) c.args.bytes.now c.read_all.new.out c.read_all.result (words_part codes n c.know.ensures.free) h
