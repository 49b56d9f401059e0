use Rattle.huff_codes.proofs.TableLaws.{table_codes}
use Rattle.huff_codes.proofs.laws.tables_have_codes.Goals as goal

pub returns : goal.returns
returns c = table_codes
