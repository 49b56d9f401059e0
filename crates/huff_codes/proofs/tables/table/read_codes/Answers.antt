use Rattle.std.proofs.Common.{◌≡◌, ◌+◌, ◌*◌, ◌/◌, ◌≤◌, length, take, refl, sym, subst, arith, inl}
use Rattle.std.specs.Prelude.{sum}
use Rattle.std.proofs.lemmas.List.{length-take-le}
use Rattle.std.proofs.lemmas.List.Sums.{sum_by-le}
use Rattle.huff_codes.specs.Codes.{IsPrefixFree}
use Rattle.huff_codes.specs.Table.{HoldCodes, words_size, code_faults}
use Rattle.huff_codes.specs.declared.faults.CodeFault.{CodeFault}
use Rattle.huff_codes.specs.inside.Stored.{codes_held}
use Rattle.huff_codes.proofs.Cutting.{cut_some, cut_bits_of, hold_from_cut}
use Rattle.huff_codes.proofs.tables.table.read_codes.Goals as goal

pub overflow_add-size : goal.overflow_add-size
overflow_add-size c = omega (arith, c.bit_count.ensures, sum_by-le (λ l. l) 32 c.args.lengths.now c.requires.lengths.low)

pub prefix_free-requires-clause-some : goal.prefix_free-requires-clause-some
prefix_free-requires-clause-some c =
    let lengths = c.args.lengths.now in
    let words = take ((c.bit_count.result + 31) / 32 * 4) c.args.bytes.now in
    let size : length words ≡ words_size lengths = omega (arith, length-take-le ((c.bit_count.result + 31) / 32 * 4) c.args.bytes.now c.if-size-bytes.false, c.bit_count.ensures) in
    cut_some c.args.first lengths words (sum lengths) c.cut_codes.result c.requires.first c.requires.few size c.requires.lengths c.cut_codes.ensures

pub returns-in-Some : goal.returns-in-Some
returns-in-Some c =
    let lengths = c.args.lengths.now in
    let words = take ((c.bit_count.result + 31) / 32 * 4) c.args.bytes.now in
    let size : length words ≡ words_size lengths = omega (arith, length-take-le ((c.bit_count.result + 31) / 32 * 4) c.args.bytes.now c.if-size-bytes.false, c.bit_count.ensures) in
    let hold = hold_from_cut c.args.first lengths words (codes_held c.cut_codes.result) c.requires.first c.requires.few size (cut_bits_of c.args.first lengths words (sum lengths) c.cut_codes.result c.cut_codes.ensures) in
    let is = c.in-Some.ensures.0 in
    let free = c.in-Some.ensures.1 in (
      c.if-size-bytes.false,
      (subst (HoldCodes c.args.first lengths words) (sym is) hold, subst IsPrefixFree (sym is) free),
    )

pub returns-in-None : goal.returns-in-None
returns-in-None c =
    let lengths = c.args.lengths.now in
    let used = (c.bit_count.result + 31) / 32 * 4 in
    let words = take used c.args.bytes.now in
    let same : used ≡ words_size lengths = omega (arith, c.bit_count.ensures) in
    let size : length words ≡ words_size lengths = omega (arith, length-take-le used c.args.bytes.now c.if-size-bytes.false, c.bit_count.ensures) in
    let hold = hold_from_cut c.args.first lengths words (codes_held c.cut_codes.result) c.requires.first c.requires.few size (cut_bits_of c.args.first lengths words (sum lengths) c.cut_codes.result c.cut_codes.ensures) in
    let there : words_size lengths ≤ length c.args.bytes.now = omega (arith, same, c.if-size-bytes.false) in
    let front = subst (λ n. HoldCodes c.args.first lengths (take n c.args.bytes.now) (codes_held c.cut_codes.result)) same hold in
    subst (λ (f : CodeFault). (f.at ≤ length c.args.bytes.now) × code_faults c.args.first lengths c.args.bytes.now f.at f.reason) (sym c.bad_table.ensures)
    (omega arith, inl (there, (codes_held c.cut_codes.result, (front, (c.in-None.ensures, (refl, refl))))))
