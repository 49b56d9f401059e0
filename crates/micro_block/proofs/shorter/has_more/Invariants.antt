use Rattle.std.proofs.Common.{◌≡◌, ◌+◌, ◌≤◌, length, take}
use Rattle.micro_block.proofs.ShortTables.{AreSeen}
use Rattle.micro_block.proofs.shorter.has_more.Given as goal

abbrev pub invariant-loop-q : goal.invariant-loop-q
invariant-loop-q g l = AreSeen g.row.N l.seen l.count (take l.q-index l.qs) × ((length l.seen ≡ g.row.N) × (l.count ≤ l.bound + 1))
