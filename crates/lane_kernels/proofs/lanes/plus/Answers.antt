use Rattle.std.proofs.Common.{◌+ℤ◌, sym, subst, arith}
use Rattle.std.proofs.lemmas.List.Elements.{recursion_from_All}
use mir.Syntax.{w64}
use mir.Val.{SFits}
use Rattle.lane_kernels.specs.inside.Lanes.{AreLanes}
use Rattle.lane_kernels.proofs.Folds.{mapped_lanes}
use Rattle.lane_kernels.proofs.Sums.{asks_all, plus_all}
use Rattle.lane_kernels.proofs.lanes.plus.Goals as goal

pub overflow_add-result : goal.overflow_add-result
overflow_add-result c =
    asks_all c.args.by c.args.lanes 8 c.ranges.by (recursion_from_All (SFits w64) c.args.lanes c.requires.lanes.fit)
    (recursion_from_All (λ v. SFits w64 (v +ℤ c.args.by)) c.args.lanes c.requires.fit)

pub returns-clause-values : goal.returns-clause-values
returns-clause-values c =
    plus_all c.args.by c.args.lanes 8 (omega (arith, c.requires.lanes.eight)) c.ranges.by (recursion_from_All (SFits w64) c.args.lanes c.requires.lanes.fit)
    (recursion_from_All (λ v. SFits w64 (v +ℤ c.args.by)) c.args.lanes c.requires.fit)

pub returns-clause-lanes : goal.returns-clause-lanes
returns-clause-lanes c =
    subst AreLanes (sym (returns-clause-values c))
    (mapped_lanes (λ v. v +ℤ c.args.by) c.args.lanes c.requires.lanes (recursion_from_All (λ v. SFits w64 (v +ℤ c.args.by)) c.args.lanes c.requires.fit))
