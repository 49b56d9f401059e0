use Rattle.std.proofs.Common.{◌≡◌, ℕ, ◌≤◌, List, slice_index, sym, ◌∙◌, subst, arith}
use Rattle.std.specs.Prelude.{All}
use Rattle.huff_codes.specs.Table.{symbol_in}
use Rattle.huff_codes.specs.Written.{run_lengths}
use Rattle.huff_codes.proofs.ChosenTables.{listed, run_low}
use Rattle.huff_codes.proofs.tables.chosen_table.list_lengths.Goals as goal

is_run : (c : goal.After-loop-k) → c.loop-k.out ≡ run_lengths c.args.lengths.now c.args.run
is_run c = listed (λ k. slice_index c.args.lengths.now (symbol_in c.args.run.first k)) c.loop-k.out c.args.run.count (c.loop-k.invariant.room ∙ c.requires.room)
    (λ j lt. c.loop-k.invariant.done j (omega (arith, lt, c.loop-k-test.false, c.loop-k.invariant.room, c.requires.room)))

pub returns-clause-is : goal.returns-clause-is
returns-clause-is c = is_run c

pub returns-clause-low : goal.returns-clause-low
returns-clause-low c = subst (λ (xs : List ℕ). All (λ l. l ≤ 32) xs) (sym (is_run c)) (run_low c.args.lengths.now c.args.run c.requires.lengths)
