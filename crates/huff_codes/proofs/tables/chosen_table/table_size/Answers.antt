use Rattle.std.proofs.Common.{rules, ◌≡◌, ℕ, List, ◌+◌, ◌*◌, ◌/◌, ◌<◌, ◌≤◌, length, ap, ◌∙◌, subst, arith}
use Rattle.std.specs.Prelude.{sum}
use Rattle.bit_stuff.specs.Simple.{simple_bytes}
use Rattle.huff_codes.specs.Written.{IsShortestRun, run_lengths}
use Rattle.huff_codes.proofs.ChosenTables.{size_of, list_short, sum_short, run_long}
use Rattle.huff_codes.proofs.tables.chosen_table.table_size.Goals as goal

pub overflow_add-result : goal.overflow_add-result
overflow_add-result c =
    let long = ap length c.list_lengths.ensures.is ∙ run_long c.all-2.result.now c.shortest_run-run.result in
    let short = list_short c.list_lengths.new.out (omega (arith, long, c.shortest_run-run.ensures.within)) c.list_lengths.ensures.low in
    let fits : 16 + c.simple_len.result < 18446744073709551616 = omega (arith, c.simple_len.ensures, short) in
    search rules

pub overflow_add-result-2 : goal.overflow_add-result-2
overflow_add-result-2 c =
    let long = ap length c.list_lengths.ensures.is ∙ run_long c.all-2.result.now c.shortest_run-run.result in
    let few = sum_short c.list_lengths.new.out (omega (arith, long, c.shortest_run-run.ensures.within)) c.list_lengths.ensures.low in
    let fits : c.bit_count.result + 31 < 18446744073709551616 = omega (arith, c.bit_count.ensures, few) in
    search rules

pub overflow_add-result-3 : goal.overflow_add-result-3
overflow_add-result-3 c =
    let long = ap length c.list_lengths.ensures.is ∙ run_long c.all-2.result.now c.shortest_run-run.result in
    let short = list_short c.list_lengths.new.out (omega (arith, long, c.shortest_run-run.ensures.within)) c.list_lengths.ensures.low in
    let few = sum_short c.list_lengths.new.out (omega (arith, long, c.shortest_run-run.ensures.within)) c.list_lengths.ensures.low in
    let fits : 16 + c.simple_len.result + (c.bit_count.result + 31) / 32 * 4 < 18446744073709551616 = omega (arith, c.simple_len.ensures, short, c.bit_count.ensures, few) in
    search rules

pub returns-clause-few : goal.returns-clause-few
returns-clause-few c =
    let long = ap length c.list_lengths.ensures.is ∙ run_long c.all-2.result.now c.shortest_run-run.result in
    let within : length c.list_lengths.new.out ≤ 256 = omega (arith, long, c.shortest_run-run.ensures.within) in
    let short = list_short c.list_lengths.new.out within c.list_lengths.ensures.low in
    let few = sum_short c.list_lengths.new.out within c.list_lengths.ensures.low in
    omega (arith, c.simple_len.ensures, short, c.bit_count.ensures, few)

pub returns-clause-size : goal.returns-clause-size
returns-clause-size c =
    let list = c.list_lengths.new.out in
    let run = c.shortest_run-run.result in
    let is : list ≡ run_lengths c.args.lengths.now run = c.list_lengths.ensures.is ∙ ap (λ (l : List ℕ). run_lengths l run) c.all-2.ensures.is in
    let simple_ : c.simple_len.result ≡ length (simple_bytes (run_lengths c.args.lengths.now run)) = c.simple_len.ensures ∙ ap (λ (l : List ℕ). length (simple_bytes l)) is in
    let bits : c.bit_count.result ≡ sum (run_lengths c.args.lengths.now run) = c.bit_count.ensures ∙ ap sum is in
    size_of c.args.lengths.now run _ (subst (λ (l : List ℕ). IsShortestRun l run) c.all.ensures.is c.shortest_run-run.ensures.run) (omega (arith, simple_, bits))
