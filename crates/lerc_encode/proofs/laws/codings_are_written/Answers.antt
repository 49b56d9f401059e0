use Rattle.lerc_encode.proofs.TableBytes.{run_is, table_is, table_written}
use Rattle.lerc_encode.proofs.WordBytes.{filled_is, words_filled}
use Rattle.lerc_encode.proofs.laws.codings_are_written.Goals as goal

pub returns-clause-range : goal.returns-clause-range
returns-clause-range c = run_is

pub returns-clause-words : goal.returns-clause-words
returns-clause-words c = words_filled

pub returns-clause-only_words : goal.returns-clause-only_words
returns-clause-only_words c = filled_is

pub returns-clause-table : goal.returns-clause-table
returns-clause-table c = table_written

pub returns-clause-only_table : goal.returns-clause-only_table
returns-clause-only_table c = table_is
