use Rattle.std.proofs.Common.{◌-◌, ◌≤◌, length, take, drop, ap, sym, subst, arith, inl}
use Rattle.std.proofs.lemmas.List.{take_rest, length-drop}
use Rattle.huff_codes.specs.Table.{IsLengthList, AreCodeWords, length_faults, code_faults, range_code_faults}
use Rattle.huff_codes.specs.declared.faults.CodeFault.{CodeFault}
use Rattle.huff_codes.proofs.Turns.{turn_read, turn_fault}
use Rattle.huff_codes.proofs.tables.table.read_range_codes.Goals as goal

pub returns-in-Err : goal.returns-in-Err
returns-in-Err c = (c.in-Err.ensures.0, inl c.in-Err.ensures.1)

pub returns-in-Ok-read_codes : goal.returns-in-Ok-read_codes
returns-in-Ok-read_codes c =
    let bytes = c.args.bytes.now in
    let range = c.args.range in
    let m = c.in-Ok.listed in
    let rest = take (length bytes - m) (drop m bytes) in
    turn_read (IsLengthList range.count) (AreCodeWords range.first) bytes rest m c.in-Ok-read_codes.used c.read_lengths.new.lengths c.in-Ok-read_codes.codes c.in-Ok.ensures.0 (take_rest bytes m)
    c.in-Ok-read_codes.ensures.0 c.in-Ok.ensures.1 c.in-Ok-read_codes.ensures.1

pub returns-in-Err-read_codes : goal.returns-in-Err-read_codes
returns-in-Err-read_codes c =
    let bytes = c.args.bytes.now in
    let range = c.args.range in
    let m = c.in-Ok.listed in
    let rest = take (length bytes - m) (drop m bytes) in
    let f = c.in-Err-read_codes.fault in
    subst (λ (g : CodeFault). (g.at ≤ length bytes) × range_code_faults range bytes g.at g.reason) (sym c.behind.ensures) (
      omega (arith, c.in-Ok.ensures.0, c.in-Err-read_codes.ensures.0, ap length (take_rest bytes m), length-drop m bytes),
      turn_fault (IsLengthList range.count) (length_faults range.count) (code_faults range.first) bytes rest m f.at c.read_lengths.new.lengths f.reason c.in-Ok.ensures.0 (take_rest bytes m)
          c.in-Ok.ensures.1 c.in-Err-read_codes.ensures.1,
    )
