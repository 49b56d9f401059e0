use Rattle.std.proofs.Common.{rules, ℕ, ℤ, ◌≡◌, ◌+◌, arith, pos, negsuc, ◌≤ℤ◌, ◌<ℤ◌, to_z, of_z, w64}
use Rattle.std.proofs.lemmas.Int.{ints}
use Rattle.huff_codes.specs.declared.tables.table.SymbolRange.{SymbolRange}
use Rattle.huff_codes.specs.Table.{int_at}
use Rattle.huff_codes.proofs.TableLaws.{range_from}
use Rattle.huff_codes.proofs.tables.table.read_range.Goals as goal

-- a number that was passed on is the number
passed_on : (x y : ℤ) (n : ℕ) → x ≡ y → negsuc 2147483647 ≤ℤ x → x <ℤ pos 2147483648 → to_z w64 (of_z w64 x) ≡ pos n → y ≡ pos n
passed_on x y n e low high is = omega (arith, ints)

pub returns : goal.returns
returns c =
    let bytes = c.args.bytes.now in
    let range : SymbolRange = record { first = c.in-Some.first; count = c.in-Some-count_of.count } in
    let first = c.in-Some.ensures in
    let count = c.in-Some-count_of.ensures in
    let f = c.in_ok-number_at-3.ensures in
    let e = c.in_ok-number_at-4.ensures in
    let version : pos 2 ≤ℤ int_at bytes 0 = search rules in
    let symbols : int_at bytes 4 ≡ pos 256 = search rules in (
      e.0,
      range_from bytes range e.0 version symbols
          (passed_on c.in_ok-number_at-3.field-0 (int_at bytes 8) c.in-Some.first f.1.0 f.1.1.0 f.1.1.1 first.0) first.1
          (passed_on c.in_ok-number_at-4.field-0 (int_at bytes 12) (c.in-Some.first + c.in-Some-count_of.count) e.1.0 e.1.1.0 e.1.1.1 count.0) count.1.0 count.1.1,
    )
