use Rattle.std.proofs.Common.{arith}
use Rattle.mask_runs.specs.Ending.{ending_with}
use Rattle.mask_runs.proofs.Chosen.{choose_repeat, choose_literal}
use Rattle.mask_runs.proofs.Endings.{length-ending}
use Rattle.mask_runs.proofs.write.first_choice.Goals as goal

pub returns-then-equal-ge-LEAST_REPEAT : goal.returns-then-equal-ge-LEAST_REPEAT
returns-then-equal-ge-LEAST_REPEAT c = choose_repeat (ending_with c.args.mask.now c.args.last) c.equal_first-equal.result c.equal_first-equal.ensures c.if-equal-ge-LEAST_REPEAT.true

pub returns-else-equal-ge-LEAST_REPEAT : goal.returns-else-equal-ge-LEAST_REPEAT
returns-else-equal-ge-LEAST_REPEAT c =
    choose_literal (ending_with c.args.mask.now c.args.last) c.equal_first-equal.result c.literal_first.result (omega (arith, c.requires, length-ending c.args.mask.now c.args.last)) c.equal_first-equal.ensures c.if-equal-ge-LEAST_REPEAT.false c.literal_first.ensures
