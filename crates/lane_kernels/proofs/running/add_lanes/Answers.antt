use Rattle.std.proofs.Common.{◌+◌, ◌%◌, ◌^◌, ◌∙◌, sym, arith}
use Rattle.std.proofs.lemmas.Simd.{get_or-zip2, length-zip2}
use Rattle.lane_kernels.proofs.running.add_lanes.Goals as goal

pub returns-clause-len : goal.returns-clause-len
returns-clause-len c =
    length-zip2 (λ a b. (a + b) % 2 ^ 8) c.args.lanes c.args.others (c.fits-lanes.0 ∙ sym c.fits-others.0) ∙ c.fits-lanes.0

pub returns-clause-lanes : goal.returns-clause-lanes
returns-clause-lanes c i lt =
    get_or-zip2 (λ a b. (a + b) % 2 ^ 8) c.args.lanes c.args.others i 0 0 0 (omega (arith, c.fits-lanes.0, lt)) (omega (arith, c.fits-others.0, lt))
