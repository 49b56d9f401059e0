use Rattle.std.proofs.Common.{◌≡◌, ◌+◌, ◌-◌, ◌++◌, List, ℕ, take, drop, length, subst, sym, ap, ◌∙◌, arith}
use Rattle.std.proofs.lemmas.List.{take_rest}
use borrow.Rule.Slice.PartMut.{put_mid}
use Rattle.mask_runs.specs.Runs.{Runs}
use Rattle.mask_runs.specs.Chosen.{piece_bytes}
use Rattle.mask_runs.specs.Ending.{ending_with}
use Rattle.mask_runs.specs.inside.Steps.{IsFirstChoice, piece_of, size_in, count_in}
use Rattle.mask_runs.proofs.Reading.{bytes_below}
use Rattle.mask_runs.proofs.Chosen.{chosen_are_runs}
use Rattle.mask_runs.proofs.Endings.{drop-ending, ending_below, length-ending}
use Rattle.mask_runs.proofs.Writing.{Written, written_room, written_more, written_end}
use Rattle.mask_runs.proofs.write.write_runs_with.Goals as goal

pub write_choice-requires-clause-room : goal.write_choice-requires-clause-room
write_choice-requires-clause-room c =
    let bytes = c.args.mask.now in
    let last = c.args.last in
    let from = c.loop-from.from in
    let choice = c.first_choice-choice.result in
    let rest = ap (λ (xs : List ℕ). ending_with xs last) (take_rest bytes from) ∙ drop-ending bytes last from c.loop-from-test.true in
    written_room (ending_with bytes last) c.loop-from.out from c.loop-from.to choice (omega (arith, c.loop-from-test.true, length-ending bytes last)) c.loop-from.invariant
    (subst (λ (xs : List ℕ). IsFirstChoice xs choice) rest c.first_choice-choice.ensures)

pub loop-from-preserved : goal.loop-from-preserved
loop-from-preserved c =
    let bytes = c.args.mask.now in
    let last = c.args.last in
    let mask = ending_with bytes last in
    let from = c.loop-from.from in
    let choice = c.first_choice-choice.result in
    let rest = ap (λ (xs : List ℕ). ending_with xs last) (take_rest bytes from) ∙ drop-ending bytes last from c.loop-from-test.true in
    let left = take (length c.loop-from.out - c.loop-from.to) (drop c.loop-from.to c.loop-from.out) in
    let first : IsFirstChoice (drop from mask) choice = subst (λ (xs : List ℕ). IsFirstChoice xs choice) rest c.first_choice-choice.ensures in
    let wrote : c.write_choice.new.out ≡ piece_bytes (piece_of (drop from mask) choice) ++ drop (size_in choice) left =
    c.write_choice.ensures ∙ ap (λ (xs : List ℕ). piece_bytes (piece_of xs choice) ++ drop (size_in choice) left) rest in
    let now = put_mid c.loop-from.to (length c.loop-from.out - c.loop-from.to) c.loop-from.out c.write_choice.new.out in
    let more = written_more mask c.loop-from.out c.write_choice.new.out (drop (size_in choice) left) from c.loop-from.to choice (omega (arith, c.loop-from-test.true, length-ending bytes last)) c.loop-from.invariant first wrote c.write_choice.auto.out in
    subst (λ n. Written mask now (from + n) (c.loop-from.to + c.size-to.result)) (sym c.count-from.ensures)
    (subst (λ n. Written mask now (from + count_in choice) (c.loop-from.to + n)) (sym c.size-to.ensures) more)

pub returns-clause-chosen : goal.returns-clause-chosen
returns-clause-chosen c =
    written_end (ending_with c.args.mask.now c.args.last) c.loop-from.out c.write_i16.new.buf _ c.loop-from.from c.loop-from.to (omega (arith, c.loop-from-test.false, length-ending c.args.mask.now c.args.last)) c.loop-from.invariant c.write_i16.ensures c.write_i16.auto.buf

pub returns-clause-runs : goal.returns-clause-runs
returns-clause-runs c =
    let mask = ending_with c.args.mask.now c.args.last in
    subst (λ (bytes : List ℕ). Runs bytes mask) (sym (returns-clause-chosen c))
    (chosen_are_runs mask (ending_below c.args.mask.now c.args.last (omega (arith, c.ranges.last.fits)) (bytes_below c.args.mask.now c.type_inv.mask)))
