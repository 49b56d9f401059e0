use Rattle.std.proofs.Common.{◌≡◌, ◌/◌, List, Bool, length, ap, subst, arith}
use Rattle.huff_codes.specs.Codes.{canonical_codes}
use Rattle.huff_codes.specs.Words.{joined_codes, word_count}
use Rattle.huff_codes.specs.Table.{symbols_in}
use Rattle.huff_codes.specs.Written.{IsFilled}
use Rattle.huff_codes.specs.inside.Stored.{codes_held}
use Rattle.huff_codes.proofs.ChosenTables.{run_bits}
use Rattle.huff_codes.proofs.tables.chosen_table.write_codes.Goals as goal

pub fill-requires-clause-room : goal.fill-requires-clause-room
fill-requires-clause-room c =
    let run = c.args.run in
    let same : joined_codes (codes_held c.codes_of.result) c.list_symbols.new.out ≡ joined_codes (canonical_codes c.args.lengths.now) (symbols_in run.first run.count) =
    λ i. joined_codes (c.codes_of.ensures.codes i) (c.list_symbols.ensures i) in
    let bits = run_bits c.args.lengths.now run c.codes_of.ensures.lengths in
    omega (arith, ap length same, bits, c.requires.room)

pub returns : goal.returns
returns c =
    let run = c.args.run in
    let out = c.fill.new.out in
    let joined = joined_codes (canonical_codes c.args.lengths.now) (symbols_in run.first run.count) in
    let same : joined_codes (codes_held c.codes_of.result) c.list_symbols.new.out ≡ joined = λ i. joined_codes (c.codes_of.ensures.codes i) (c.list_symbols.ensures i) in
    let bits = run_bits c.args.lengths.now run c.codes_of.ensures.lengths in
    let size : length c.args.out.now / 4 ≡ word_count (length joined) = omega (arith, bits, c.requires.room) in
    subst (λ n. IsFilled n joined out) size (subst (λ (bs : List Bool). IsFilled (length c.args.out.now / 4) bs out) same c.fill.ensures)
