use Rattle.huff_codes.proofs.Once.{words_once, tables_once}
use Rattle.huff_codes.proofs.laws.written_bytes_are_once.Goals as goal

pub returns-clause-words : goal.returns-clause-words
returns-clause-words c = words_once

pub returns-clause-table : goal.returns-clause-table
returns-clause-table c = tables_once
