use Rattle.std.proofs.Common.{ℤ, pos, ◌≤ℤ◌, arith}
use Rattle.std.proofs.lemmas.Int.{ints, to_z-of_z}
use mir.Syntax.{w64}
use Rattle.micro_block.proofs.InPlace.{fits_up_to}
use Rattle.micro_block.proofs.Range.{in_list}
use Rattle.micro_block.proofs.quantising.step_each.Goals as goal

pub overflow_cast-reach : goal.overflow_cast-reach
overflow_cast-reach c =
    let is = (c.range.ensures.found c.in-Some.field-0-0 c.in-Some.reach).0 c.in-Some.is in
    let up = in_list (λ (v : ℤ). (pos 0 ≤ℤ v) × (v ≤ℤ pos 8589934592)) c.args.distances.now c.in-Some.reach is.1.0 c.requires.far in
    let same = to_z-of_z w64 c.in-Some.reach (fits_up_to 8589934592 _ (omega arith) up.0 up.1) in
    (omega (arith, ints, same, up.0), omega (arith, ints, same, up.0, up.1, c.if-reach-le4294967295.true))

pub near_each-requires-clause-near : goal.near_each-requires-clause-near
near_each-requires-clause-near c k d lt =
    let is = (c.range.ensures.found c.in-Some.field-0-0 c.in-Some.reach).0 c.in-Some.is in
    let up = in_list (λ (v : ℤ). (pos 0 ≤ℤ v) × (v ≤ℤ pos 8589934592)) c.args.distances.now c.in-Some.reach is.1.0 c.requires.far in
    let same = to_z-of_z w64 c.in-Some.reach (fits_up_to 8589934592 _ (omega arith) up.0 up.1) in
    let below = is.1.1 k d lt in
    ((c.requires.far k d lt).0, omega (arith, ints, same, up.0, below))
