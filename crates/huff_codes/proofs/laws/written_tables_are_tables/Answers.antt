use Rattle.huff_codes.proofs.ChosenTables.{table_from}
use Rattle.huff_codes.proofs.laws.written_tables_are_tables.Goals as goal

pub returns : goal.returns
returns c = table_from
