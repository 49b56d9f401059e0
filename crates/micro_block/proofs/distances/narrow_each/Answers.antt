use Rattle.std.proofs.Common.{pos, get_or, ap, arith}
use Rattle.std.specs.Prelude.{unsigned_abs}
use Rattle.std.proofs.lemmas.Int.{ints, to_z-of_z}
use mir.Syntax.{w64}
use Rattle.lane_kernels.proofs.Mapped.{mapped-more, mapped-all}
use Rattle.micro_block.proofs.InPlace.{fits_up_to}
use Rattle.micro_block.proofs.distances.narrow_each.Goals as goal

pub overflow_cast-out : goal.overflow_cast-out
overflow_cast-out c =
    let up = c.requires.fit c.loop-i.i (pos 0) c.loop-i-test.true in
    let same = to_z-of_z w64 (get_or c.args.numbers.now c.loop-i.i (pos 0)) (fits_up_to 4294967295 _ (omega arith) up.0 up.1) in
    (omega (arith, ints, same, up.0), omega (arith, ints, same, up.0, up.1))

pub loop-i-preserved : goal.loop-i-preserved
loop-i-preserved c =
    let numbers = c.args.numbers.now in
    let up = c.requires.fit c.loop-i.i (pos 0) c.loop-i-test.true in
    let same = to_z-of_z w64 (get_or numbers c.loop-i.i (pos 0)) (fits_up_to 4294967295 _ (omega arith) up.0 up.1) in
    mapped-more unsigned_abs numbers c.loop-i.out (pos 0) _ c.loop-i.i
    c.loop-i-test.true (omega arith) c.loop-i.invariant (ap unsigned_abs same)

pub returns : goal.returns
returns c =
    mapped-all unsigned_abs c.args.numbers.now c.loop-i.out c.loop-i.i
    (omega arith) (omega arith) c.loop-i.invariant
