use Rattle.std.proofs.Common.{◌≡◌, ℕ, List, ◌+◌, ◌-◌, ◌++◌, length, drop, refl, sym, ap, ◌∙◌, subst, arith}
use Rattle.std.proofs.lemmas.List.{length-drop}
use borrow.Rule.Slice.PartMut.{put_mid}
use Rattle.bit_stuff.specs.Simple.{simple_bytes}
use Rattle.huff_codes.specs.Written.{IsShortestRun, IsWrittenTable, run_lengths}
use Rattle.huff_codes.proofs.ChosenTables.{table_from, three_parts, head_long, run_bits}
use Rattle.huff_codes.proofs.tables.chosen_table.write_code_table.Goals as goal

written : (c : goal.After-slice_known-5-1)
    → IsWrittenTable c.args.lengths.now (put_mid (16 + c.simple_len-end.result)
    (length (put_mid 16 (16 + c.simple_len-end.result - 16) (c.write_table_head.new.out ++ drop 16 c.args.out.now) c.write_simple.new.out) - (16 + c.simple_len-end.result))
    (put_mid 16 (16 + c.simple_len-end.result - 16) (c.write_table_head.new.out ++ drop 16 c.args.out.now) c.write_simple.new.out) c.write_codes.new.out)
written c =
    let lengths = c.args.lengths.now in
    let range = c.shortest_run-run.result in
    let run : IsShortestRun lengths range = subst (λ (l : List ℕ). IsShortestRun l range) c.all.ensures.is c.shortest_run-run.ensures.run in
    let list : c.list_lengths.new.out ≡ run_lengths lengths range = c.list_lengths.ensures.is ∙ ap (λ (l : List ℕ). run_lengths l range) c.all-2.ensures.is in
    let simple_ : c.write_simple.new.out ≡ simple_bytes (run_lengths lengths range) = c.write_simple.ensures.bytes ∙ ap simple_bytes list in
    let end : 16 + c.simple_len-end.result ≡ 16 + length c.write_simple.new.out = ap (λ n. 16 + n) (c.simple_len-end.ensures ∙ ap length (sym c.write_simple.ensures.bytes)) in
    let head : length c.write_table_head.new.out ≡ 16 = ap length c.write_table_head.ensures ∙ head_long range in
    let whole = c.requires range run in
    let bits = run_bits lengths range c.all.ensures.lengths in
    let rest : length (drop 16 c.args.out.now) ≡ length c.write_simple.new.out + length c.write_codes.new.out =
    (let d = length-drop 16 c.args.out.now in omega (arith, d, whole, bits, c.write_codes.ensures.size, ap length simple_)) in
    record {
      range = range;
      words = c.write_codes.new.out;
      run = run;
      joined = three_parts c.write_table_head.new.out (drop 16 c.args.out.now) c.write_simple.new.out c.write_codes.new.out (16 + c.simple_len-end.result) _ head end rest refl
          ∙ (λ i. c.write_table_head.ensures i ++ (simple_ i ++ c.write_codes.new.out));
      filled = c.write_codes.ensures;
    }

pub returns-clause-written : goal.returns-clause-written
returns-clause-written c = written c

pub returns-clause-table : goal.returns-clause-table
returns-clause-table c = table_from c.args.lengths.now _ c.all.ensures.lengths (written c)
