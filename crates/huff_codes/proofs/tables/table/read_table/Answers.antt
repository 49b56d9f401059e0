use Rattle.huff_codes.specs.Table.{IsTable, table_faults}
use Rattle.huff_codes.proofs.Answered.{value_complete, value_fault}
use Rattle.huff_codes.proofs.TableLaws.{table_part}
use Rattle.huff_codes.proofs.tables.table.read_table.Goals as goal

pub returns-clause-complete : goal.returns-clause-complete
returns-clause-complete c = value_complete IsTable table_faults c.args.bytes.now c.read_parts.result table_part c.read_parts.ensures

pub returns-clause-fault : goal.returns-clause-fault
returns-clause-fault c = value_fault IsTable table_faults c.args.bytes.now c.read_parts.result table_part c.read_parts.ensures
