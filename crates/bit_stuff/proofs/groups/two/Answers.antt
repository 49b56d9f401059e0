use Rattle.std.proofs.Common.{◌≡◌, ◌+◌, ◌*◌, ◌%◌, ◌^◌, ◌<◌, ◌≤◌, ℕ, List, length, get_or, arith}
use Rattle.bit_stuff.specs.inside.Group.{IsGroup}
use Rattle.bit_stuff.proofs.Eights.{group_one, group_shifted}
use Rattle.bit_stuff.proofs.groups.two.Goals as goal

-- widened values are the values
joined : (w : ℕ) (vs : List ℕ) (i a b : ℕ) → w ≤ 31 → i + 2 ≤ length vs → ((k : ℕ) → k < length vs → get_or vs k 0 < 2 ^ w) → a ≡ get_or vs i 0 → b ≡ get_or vs (i + 1) 0
    → IsGroup w vs i 2 (a + b * 2 ^ w % 2 ^ 64)
joined w vs i a b narrow there below p q =
    rw (p, q) (group_shifted w vs i 1 (get_or vs i 0) (get_or vs (i + 1) 0) w 64 (omega arith) (omega arith)
    (group_one w vs i (omega arith) (below i (omega arith))) (group_one w vs (i + 1) (omega arith) (below (i + 1) (omega arith))))

pub returns : goal.returns
returns c = joined c.args.width c.args.values.now c.args.i c.from.result c.from-2.result c.requires.width c.requires.there (λ k lt. c.requires.values k 0 lt) c.from.ensures c.from-2.ensures
