use Rattle.std.proofs.Common.{◌+◌, max, get_or, take, ℕ, subst, sym, arith}
use Rattle.micro_block.specs.inside.Stepping.{AreEndsOf}
use Rattle.micro_block.proofs.Above.{ends_more, ends_none}
use Rattle.micro_block.proofs.distances.ends.Goals as goal

pub loop-distance-init : goal.loop-distance-init
loop-distance-init c = ends_none

pub loop-distance-preserved : goal.loop-distance-preserved
loop-distance-preserved c =
    let ds = c.args.distances.now in
    let i = c.loop-distance.distance-index in
    let fits = c.type_inv.distances i in
    let more = ends_more ds i c.loop-distance.least c.loop-distance.greatest c.loop-distance-test.true (omega (arith, fits)) c.loop-distance.invariant in
    subst (λ (g : ℕ). AreEndsOf (take (i + 1) ds) c.min-least.result g) (sym c.max-greatest.ensures)
    (subst (λ (l : ℕ). AreEndsOf (take (i + 1) ds) l (max c.loop-distance.greatest (get_or ds i 0))) (sym c.min-least.ensures) more)
