use Rattle.std.proofs.Common.{◌-◌, length, take, drop, sym, subst, inl}
use Rattle.std.proofs.lemmas.List.{take_rest}
use Rattle.huff_codes.specs.Table.{IsRange, AreRangeCodes, range_faults, range_code_faults, table_faults}
use Rattle.huff_codes.specs.declared.faults.CodeFault.{CodeFault}
use Rattle.huff_codes.proofs.Turns.{turn_read, turn_fault}
use Rattle.huff_codes.proofs.tables.table.read_parts.Goals as goal

pub returns-in-Err : goal.returns-in-Err
returns-in-Err c = inl c.in-Err.ensures.1

pub returns-in-Ok-read_range_codes : goal.returns-in-Ok-read_range_codes
returns-in-Ok-read_range_codes c =
    let bytes = c.args.bytes.now in
    let rest = take (length bytes - 16) (drop 16 bytes) in
    turn_read IsRange AreRangeCodes bytes rest 16 c.in-Ok-read_range_codes.used c.in-Ok.range c.in-Ok-read_range_codes.codes c.in-Ok.ensures.0 (take_rest bytes 16)
    c.in-Ok-read_range_codes.ensures.0 c.in-Ok.ensures.1 c.in-Ok-read_range_codes.ensures.1

pub returns-in-Err-read_range_codes : goal.returns-in-Err-read_range_codes
returns-in-Err-read_range_codes c =
    let bytes = c.args.bytes.now in
    let rest = take (length bytes - 16) (drop 16 bytes) in
    let f = c.in-Err-read_range_codes.fault in
    subst (λ (g : CodeFault). table_faults bytes g.at g.reason) (sym c.behind.ensures)
    (turn_fault IsRange range_faults range_code_faults bytes rest 16 f.at c.in-Ok.range f.reason c.in-Ok.ensures.0 (take_rest bytes 16) c.in-Ok.ensures.1 c.in-Err-read_range_codes.ensures.1)
