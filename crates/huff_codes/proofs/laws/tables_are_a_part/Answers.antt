use Rattle.huff_codes.proofs.TableLaws.{table_part, coding_part}
use Rattle.huff_codes.proofs.Decided.{table_decided, coding_decided}
use Rattle.huff_codes.proofs.laws.tables_are_a_part.Goals as goal

pub returns-clause-table : goal.returns-clause-table
returns-clause-table c = table_part

pub returns-clause-coding : goal.returns-clause-coding
returns-clause-coding c = coding_part

pub returns-clause-table_decided : goal.returns-clause-table_decided
returns-clause-table_decided c = table_decided

pub returns-clause-coding_decided : goal.returns-clause-coding_decided
returns-clause-coding_decided c = coding_decided
