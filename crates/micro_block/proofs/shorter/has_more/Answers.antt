use Rattle.std.proofs.Common.{◌≡◌, ◌+◌, ◌<◌, ◌%◌, ℕ, Bool, List, true, false, cond, length, get_or, take, replicate, refl, sym, subst, ◌∙◌, arith}
use Rattle.std.specs.Prelude.{set, not}
use Rattle.std.specs.Int.{from_bool}
use Rattle.std.proofs.lemmas.List.{length-replicate, length-set, take_more}
use Rattle.micro_block.proofs.ShortTables.{AreSeen, none_seen, seen_next, seen_distinct, seen_of_all}
use Rattle.micro_block.proofs.shorter.has_more.Goals as goal

flipped : (b : Bool) → from_bool (not b) ≡ cond b 0 1
flipped true = refl
flipped false = refl

-- one number more
next : (m : ℕ) (seen : List Bool) (count i n : ℕ) (qs : List ℕ) → length seen ≡ m → 0 < m → i < length qs → n ≡ from_bool (not (get_or seen (get_or qs i 0 % m) false)) → AreSeen m seen count (take i qs)
    → AreSeen m (set seen (get_or qs i 0 % m) true) (count + n) (take (i + 1) qs)
next m seen count i n qs long some below e s =
    subst (λ (front : List ℕ). AreSeen m (set seen (get_or qs i 0 % m) true) (count + n) front) (sym (take_more qs i 0 below))
    (seen_next m seen count (take i qs) (get_or qs i 0) n (omega (arith, long, some)) (e ∙ flipped (get_or seen (get_or qs i 0 % m) false)) s)

pub loop-q-init : goal.loop-q-init
loop-q-init g c = (none_seen g.row.N (replicate g.row.N false), (length-replicate g.row.N false, omega arith))

pub returns-then-count-bound : goal.returns-then-count-bound
returns-then-count-bound g c t =
    let qs = c.args.qs.now in
    let i = c.loop-q.q-index in
    let s = next g.row.N c.loop-q.seen c.loop-q.count i c.from-count.result qs c.loop-q.invariant.1.0 c.requires.places c.loop-q-test.true c.from-count.ensures c.loop-q.invariant.0 in
    let le = seen_distinct g.row.N (set c.loop-q.seen (get_or qs i 0 % g.row.N) true) (c.loop-q.count + c.from-count.result) qs (seen_of_all g.row.N (set c.loop-q.seen (get_or qs i 0 % g.row.N) true) (c.loop-q.count + c.from-count.result) (i + 1) qs s) in
    omega (arith, le, c.if-count-bound.true)

pub loop-q-preserved : goal.loop-q-preserved
loop-q-preserved g c =
    let qs = c.args.qs.now in
    let i = c.loop-q.q-index in
    (next g.row.N c.loop-q.seen c.loop-q.count i c.from-count.result qs c.loop-q.invariant.1.0 c.requires.places c.loop-q-test.true c.from-count.ensures c.loop-q.invariant.0, (length-set c.loop-q.seen (get_or qs i 0 % g.row.N) true ∙ c.loop-q.invariant.1.0, c.if-count-bound.false))
