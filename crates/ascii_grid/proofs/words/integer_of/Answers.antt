use Rattle.std.proofs.Common.{rules, ◌≡◌, ◌∙◌, drop, sym, to_z, of_z, w64}
use Rattle.std.proofs.lemmas.List.{take_rest}
use Rattle.ascii_grid.proofs.DigitSteps.{integer_above, integer_below, no_integer_above, no_integer_below, no_number}
use Rattle.ascii_grid.proofs.words.integer_of.Goals as goal

pub returns-in-Some-clause-value : goal.returns-in-Some-clause-value
returns-in-Some-clause-value c =
    let same : to_z w64 (of_z w64 c.negative_of.result) ≡ c.negative_of.result = search rules in
    integer_below c.args.bytes.now (drop 1 c.args.bytes.now) c.in-Some.n (to_z w64 (of_z w64 c.negative_of.result)) c.if-begins_with_minus.ensures (rw take_rest at ((c.natural_of.ensures.value c.in-Some.n).0 c.in-Some.is)) (same ∙ c.negative_of.ensures)

pub returns-in-None-clause-value : goal.returns-in-None-clause-value
returns-in-None-clause-value c =
    no_integer_below c.args.bytes.now (drop 1 c.args.bytes.now) c.if-begins_with_minus.ensures (λ n are. no_number n (sym c.in-None.is ∙ (c.natural_of.ensures.value n).1 (rw take_rest are)))

pub returns-in-Some-natural_of-clause-value : goal.returns-in-Some-natural_of-clause-value
returns-in-Some-natural_of-clause-value c =
    let same : to_z w64 (of_z w64 c.signed_of.result) ≡ c.signed_of.result = search rules in
    integer_above c.args.bytes.now c.in-Some-natural_of.n (to_z w64 (of_z w64 c.signed_of.result)) ((c.natural_of-else-begins_with_minus.ensures.value c.in-Some-natural_of.n).0 c.in-Some-natural_of.is) (same ∙ c.signed_of.ensures)

pub returns-in-None-natural_of-clause-value : goal.returns-in-None-natural_of-clause-value
returns-in-None-natural_of-clause-value c =
    no_integer_above c.args.bytes.now c.if-begins_with_minus.ensures (λ n are. no_number n (sym c.in-None-natural_of.is ∙ (c.natural_of-else-begins_with_minus.ensures.value n).1 are))
