use Rattle.std.proofs.Common.{◌≤◌, length, take, drop, refl, sym, ◌∙◌, subst, arith, inr}
use Rattle.std.proofs.lemmas.Bool.{MatchBool-at_false}
use Rattle.std.proofs.lemmas.List.{take-append-drop}
use Rattle.huff_codes.specs.Table.{HaveLengths, length_faults}
use Rattle.huff_codes.specs.declared.faults.CodeFault.{CodeFault}
use Rattle.huff_codes.proofs.tables.table.read_lengths.Goals as goal

pub returns-else-can_be_lengths : goal.returns-else-can_be_lengths
returns-else-can_be_lengths c =
    let bytes = c.args.bytes.now in
    let used = c.in-Ok.used in
    let list = c.read_list.new.out in
    let fails = MatchBool-at_false (HaveLengths list) (¬ HaveLengths list) c.if-can_be_lengths.false c.can_be_lengths.ensures in
    subst (λ (f : CodeFault). (f.at ≤ length bytes) × length_faults c.args.count bytes f.at f.reason) (sym c.bad_table.ensures) (
      omega arith,
      inr (
        record { front = take used bytes; rest = drop used bytes; value = list; joined = sym (take-append-drop used bytes); stands = (c.read_list.auto.out ∙ c.requires.room, c.in-Ok.ensures.ok.1) },
        (fails, (refl, refl)),
      ),
    )
