use Rattle.huff_codes.proofs.WordLaws.{words_part}
use Rattle.huff_codes.proofs.Decided.{words_decided}
use Rattle.huff_codes.proofs.laws.words_are_a_part.Goals as goal

pub returns-clause-part : goal.returns-clause-part
returns-clause-part c = words_part

pub returns-clause-decided : goal.returns-clause-decided
returns-clause-decided c = λ codes n are. words_decided codes n are.size
