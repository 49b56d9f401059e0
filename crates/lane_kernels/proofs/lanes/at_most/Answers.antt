use Rattle.std.proofs.Common.{replicate, ◌∙◌, sym, subst}
use Rattle.std.specs.Int.{int_min}
use Rattle.std.proofs.lemmas.List.Elements.{recursion_from_All}
use Rattle.std.proofs.lemmas.Simd.{zip2_splat}
use mir.Syntax.{w64}
use mir.Val.{SFits}
use Rattle.lane_kernels.specs.inside.Lanes.{AreLanes}
use Rattle.lane_kernels.proofs.Folds.{lesser, mapped_lanes, fit_joined}
use Rattle.lane_kernels.proofs.Ends.{min_lanes}
use Rattle.lane_kernels.proofs.lanes.at_most.Goals as goal

pub returns-clause-values : goal.returns-clause-values
returns-clause-values c =
    let f = c.ranges.most in
    min_lanes c.args.lanes (replicate 8 c.args.most) (recursion_from_All (SFits w64) c.args.lanes c.requires.lanes.fit) (f, (f, (f, (f, (f, (f, (f, (f, tt))))))))
    ∙ zip2_splat int_min c.args.lanes 8 c.args.most c.requires.lanes.eight

pub returns-clause-lanes : goal.returns-clause-lanes
returns-clause-lanes c =
    subst AreLanes (sym (returns-clause-values c))
    (mapped_lanes (λ v. int_min v c.args.most) c.args.lanes c.requires.lanes
    (fit_joined int_min lesser c.args.most c.args.lanes c.ranges.most (recursion_from_All (SFits w64) c.args.lanes c.requires.lanes.fit)))
