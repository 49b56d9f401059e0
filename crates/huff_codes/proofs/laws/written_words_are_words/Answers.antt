use Rattle.huff_codes.proofs.WrittenBack.{written_are_words}
use Rattle.huff_codes.proofs.laws.written_words_are_words.Goals as goal

pub returns : goal.returns
returns c = written_are_words
