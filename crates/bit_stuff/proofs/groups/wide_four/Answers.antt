use Rattle.std.proofs.Common.{◌≡◌, ◌+◌, ◌*◌, ◌%◌, ◌^◌, ◌≤◌, ℕ, List, arith}
use Rattle.bit_stuff.specs.inside.Group.{IsGroup}
use Rattle.bit_stuff.proofs.Eights.{group_shifted}
use Rattle.bit_stuff.proofs.groups.wide_four.Goals as goal

joined : (w : ℕ) (vs : List ℕ) (i a b g h : ℕ) → w ≤ 31 → a ≡ g → b ≡ h → IsGroup w vs i 2 g → IsGroup w vs (i + 2) 2 h → IsGroup w vs i 4 (a + b * 2 ^ (2 * w) % 2 ^ 128)
joined w vs i a b g h narrow p q m n = rw (p, q) (group_shifted w vs i 2 g h (2 * w) 128 (omega arith) (omega arith) m n)

pub returns : goal.returns
returns c = joined c.args.width c.args.values.now c.args.i c.from.result c.from-2.result c.two.result c.two-2.result c.requires.width c.from.ensures c.from-2.ensures c.two.ensures c.two-2.ensures
