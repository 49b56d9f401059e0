use Rattle.std.proofs.Common.{◌/◌, ◌^◌, ◌<◌, slice_index_or, arith}
use Rattle.std.proofs.lemmas.Nat.{shr_below}
use Rattle.huff_codes.specs.inside.Lookup.{no_entry}
use Rattle.huff_codes.proofs.Lookups.{step_reads}
use Rattle.huff_codes.proofs.words.reading.step.Goals as goal

pub returns-clause-reached : goal.returns-clause-reached
returns-clause-reached c codes bytes before n entries h =
    let k = c.args.from.window / 2 ^ 53 in
    let lt : k < 2 ^ 11 = shr_below c.args.from.window 11 53 (omega arith) in
    let e = slice_index_or c.args.entries.now k no_entry in
    let short = c.requires.short k no_entry (omega (arith, c.requires.table)) in
    step_reads codes bytes before c.args.out.now n c.args.from e c.requires.room short.few short.low (entries k (omega (arith, c.requires.table))) h
