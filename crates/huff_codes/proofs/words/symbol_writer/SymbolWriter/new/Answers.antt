use Rattle.std.proofs.Common.{◌∙◌}
use Rattle.huff_codes.proofs.Begun.{codes_kept, none_begun}
use Rattle.huff_codes.proofs.words.symbol_writer.SymbolWriter.new.Goals as goal

pub returns-clause-codes : goal.returns-clause-codes
returns-clause-codes c = codes_kept c.numbers_of.result 0 0 0 ∙ c.numbers_of.ensures.codes ∙ c.codes_of.ensures.codes

pub returns-clause-begun : goal.returns-clause-begun
returns-clause-begun c = λ bytes. none_begun c.numbers_of.result bytes
