use Rattle.std.proofs.Common.{◌≡◌, ◌+◌, ◌-◌, ◌*◌, ◌<◌, ◌^◌, ℕ, List, map, take, length, min, ap, subst, ◌∙◌, arith, rules}
use Rattle.std.proofs.lemmas.List.{take_all, take_min}
use Rattle.micro_block.specs.inside.Remainders.{AreAdded}
use Rattle.micro_block.specs.inside.Stepping.{steps_above}
use Rattle.micro_block.proofs.Above.{stepped_piece}
use Rattle.micro_block.proofs.RemainderSets.{added_piece, remainders_few}
use Rattle.micro_block.proofs.ShortTables.{front_distinct}
use Rattle.micro_block.proofs.remainders.remainders_within.Goals as goal

pub with_remainders-bits-requires : goal.with_remainders-bits-requires
with_remainders-bits-requires c =
    let at = 16 * c.loop-i.i in
    stepped_piece c.args.step c.args.least at (c.min-upto.result - at) c.args.rule c.args.distances.now c.requires.stepped

pub returns-then-bits-bound-clause-more : goal.returns-then-bits-bound-clause-more
returns-then-bits-bound-clause-more c t =
    let ds = c.args.distances.now in
    let f : ℕ → ℕ = steps_above c.args.step c.args.least in
    let bits = c.with_remainders-bits.result in
    let upto = c.min-upto.result in
    let at = 16 * c.loop-i.i in
    let fits : bits < 2 ^ 64 = search rules in
    let to : upto ≡ at + (upto - at) = omega (arith, c.min-upto.ensures, c.loop-i-test.true, c.requires.few) in
    let le = remainders_few bits (map f (take upto ds)) fits (added_piece 1 c.loop-i.bits bits f ds at (upto - at) upto to c.loop-i.invariant c.with_remainders-bits.ensures) in
    front_distinct f ds upto c.args.bound (omega (arith, le, c.if-bits-bound.true))

pub loop-i-preserved : goal.loop-i-preserved
loop-i-preserved c =
    let ds = c.args.distances.now in
    let f : ℕ → ℕ = steps_above c.args.step c.args.least in
    let bits = c.with_remainders-bits.result in
    let upto = c.min-upto.result in
    let at = 16 * c.loop-i.i in
    let to : upto ≡ at + (upto - at) = omega (arith, c.min-upto.ensures, c.loop-i-test.true, c.requires.few) in
    let front : take upto ds ≡ take (16 * (c.loop-i.i + 1)) ds = ap (λ (n : ℕ). take n ds) (let e : upto ≡ min (16 * (c.loop-i.i + 1)) (length ds) = omega (arith, c.min-upto.ensures) in e) ∙ take_min (16 * (c.loop-i.i + 1)) ds in
    subst (λ (xs : List ℕ). AreAdded 1 (map f xs) bits) front (added_piece 1 c.loop-i.bits bits f ds at (upto - at) upto to c.loop-i.invariant c.with_remainders-bits.ensures)

pub returns-clause-set : goal.returns-clause-set
returns-clause-set c =
    subst (λ (xs : List ℕ). AreAdded 1 (map (steps_above c.args.step c.args.least) xs) c.loop-i.bits) (take_all (16 * c.loop-i.i) c.args.distances.now (omega (arith, c.loop-i-test.false))) c.loop-i.invariant
