use Rattle.micro_block.proofs.ShortTables.{AllLong}
use Rattle.micro_block.proofs.shorter.most_counted.Given as goal

abbrev pub invariant-loop-i : goal.invariant-loop-i
invariant-loop-i l = AllLong l.count l.width l.i
