use Rattle.std.proofs.Common.{◌≡◌, ℕ, subst, arith}
use Rattle.sample_tiles.specs.Sums.{AreSums}
use Rattle.sample_tiles.proofs.Batch.{starts}
use Rattle.sample_tiles.proofs.Summing.{none_summed}
use Rattle.sample_tiles.proofs.batches.sample.Goals as goal

pub loop-sums-init : goal.loop-sums-init
loop-sums-init g c = record { few = omega arith; roomy = omega arith; near = omega arith; sums = none_summed c.args.start; number = starts c.args.start }

pub returns-clause-sums : goal.returns-clause-sums
returns-clause-sums g c =
    let all : c.loop-sums.sums.tiles ≡ c.args.count = omega (arith, c.loop-sums.invariant.few, c.loop-sums-test.false) in
    subst (λ (n : ℕ). AreSums c.args.start n c.loop-sums.sums) all c.loop-sums.invariant.sums
