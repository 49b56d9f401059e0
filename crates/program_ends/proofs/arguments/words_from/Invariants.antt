use Rattle.program_ends.proofs.Words.{AreGathered}
use Rattle.program_ends.proofs.arguments.words_from.Given as goal

abbrev pub invariant-loop-number : goal.invariant-loop-number
invariant-loop-number g l =
    AreGathered l.first (g.A.Arguments.texts l.args) l.words.items l.number
