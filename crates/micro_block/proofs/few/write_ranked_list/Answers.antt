use Rattle.std.proofs.Common.{◌≡◌, ◌≤◌, ◌++◌, ℕ, List, Some, drop, length, sym, ap, ◌∙◌, subst}
use Rattle.bit_stuff.specs.Simple.{binary_digits, greatest_number}
use Rattle.lut_stuff.specs.Ranked.{above_value}
use Rattle.lut_stuff.specs.Tables.{table_bytes, table_size}
use Rattle.micro_block.proofs.Above.{all_below}
use Rattle.micro_block.proofs.FarApart.{steps_are}
use Rattle.micro_block.proofs.few.write_ranked_list.Goals as goal

pub write_above-requires-clause-values : goal.write_above-requires-clause-values
write_above-requires-clause-values c =
    let least = c.args.spread.least in
    let ds = c.args.distances.now in
    all_below c.args.step least ds (above_value least ds) (sym (steps_are c.args.step least ds c.requires.exact)) c.requires.listable.few

pub write_above-requires-clause-width : goal.write_above-requires-clause-width
write_above-requires-clause-width c =
    c.digit_count-width.ensures.value ∙ ap binary_digits (c.requires.most ∙ ap greatest_number (steps_are c.args.step c.args.spread.least c.args.distances.now c.requires.exact))

pub write_above-requires-clause-table : goal.write_above-requires-clause-table
write_above-requires-clause-table c =
    subst (λ (qs : List ℕ). table_size qs ≡ Some (length (table_bytes qs))) (steps_are c.args.step c.args.spread.least c.args.distances.now c.requires.exact) c.requires.table

pub write_above-requires-clause-room : goal.write_above-requires-clause-room
write_above-requires-clause-room c =
    subst (λ (qs : List ℕ). length (table_bytes qs) ≤ length c.args.out.now) (steps_are c.args.step c.args.spread.least c.args.distances.now c.requires.exact) c.requires.room

pub returns-in-Some-clause-count : goal.returns-in-Some-clause-count
returns-in-Some-clause-count c =
    c.in-Some.ensures.count ∙ ap (λ (qs : List ℕ). length (table_bytes qs)) (sym (steps_are c.args.step c.args.spread.least c.args.distances.now c.requires.exact))

pub returns-in-Some-clause-bytes : goal.returns-in-Some-clause-bytes
returns-in-Some-clause-bytes c =
    c.in-Some.ensures.bytes ∙ ap (λ (qs : List ℕ). table_bytes qs ++ drop c.in-Some.used c.args.out.now) (sym (steps_are c.args.step c.args.spread.least c.args.distances.now c.requires.exact))
