use Rattle.huff_codes.proofs.Reading.{reach_none}
use Rattle.huff_codes.proofs.words.reader.SymbolReader.new.Goals as goal

pub returns-clause-none : goal.returns-clause-none
returns-clause-none c = reach_none c.args.codes.now c.args.bytes.now
