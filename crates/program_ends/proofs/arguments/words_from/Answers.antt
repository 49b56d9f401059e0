use Rattle.program_ends.proofs.Words.{all_gathered, one_more}
use Rattle.program_ends.proofs.arguments.words_from.Goals as goal

pub returns-in-None : goal.returns-in-None
returns-in-None g c = all_gathered _ _ _ _ _ c.in-None.is c.loop-number.invariant c.in_ok-word.ensures

pub loop-number-preserved : goal.loop-number-preserved
loop-number-preserved g c =
    rw c.in_ok-push-in-Some.ensures.items (one_more _ _ _ _ _ c.in-Some.word c.in-Some.is c.loop-number.invariant c.in_ok-word.ensures)
