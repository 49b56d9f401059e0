use Rattle.std.proofs.Common.{◌≡◌, ◌↔◌, ◌+◌, ℕ, List, Some, take, drop, ap, ◌∙◌, subst, arith}
use Rattle.command_words.specs.Words.{AreSlotWords}
use Rattle.tiles_cli.proofs.Fields.{all_one_field, rest_is, two_fields}
use Rattle.tiles_cli.specs.inside.Fields.{IsFieldLength}
use Rattle.tiles_cli.proofs.slot_list.slot_in.Goals as goal

pub returns-then-row_len-line : goal.returns-then-row_len-line
returns-then-row_len-line c = all_one_field c.args.line.now c.field_len-row_len.result c.field_len-row_len.ensures (omega (arith, c.if-row_len-line.true))

pub returns : goal.returns
returns c =
    let line = c.args.line.now in
    let n = c.field_len-row_len.result in
    let m = c.field_len.result in
    let row : List ℕ = c.in_ok-row.row in
    let found = c.slot_of.result in
    two_fields line n m c.field_len-row_len.ensures (omega (arith, c.if-row_len-line.false, c.field_len-row_len.ensures.within)) (subst (λ (l : List ℕ). IsFieldLength l m) (rest_is (n + 1) line) c.field_len.ensures) found
    (subst (λ (r : List ℕ). (slot : ℕ) → (found ≡ Some slot) ↔ AreSlotWords r (take m (drop (n + 1) line)) slot) c.in_ok-row.ensures
    (subst (λ (w : List ℕ). (slot : ℕ) → (found ≡ Some slot) ↔ AreSlotWords row w slot) (c.in_ok-col.ensures ∙ ap (take m) (rest_is (n + 1) line)) c.slot_of.ensures))
