use Rattle.std.proofs.Common.{sym, subst}
use Rattle.std.specs.Int.{int_max}
use Rattle.std.proofs.lemmas.List.Elements.{recursion_from_All}
use mir.Syntax.{w64}
use mir.Val.{SFits}
use Rattle.lane_kernels.specs.inside.Lanes.{AreLanes}
use Rattle.lane_kernels.proofs.Folds.{greater, still_lanes}
use Rattle.lane_kernels.proofs.Ends.{max_lanes}
use Rattle.lane_kernels.proofs.lanes.higher.Goals as goal

pub returns-clause-greatest : goal.returns-clause-greatest
returns-clause-greatest c =
    max_lanes c.args.kept c.args.next (recursion_from_All (SFits w64) c.args.kept c.requires.kept.fit) (recursion_from_All (SFits w64) c.args.next c.requires.next.fit)

pub returns-clause-lanes : goal.returns-clause-lanes
returns-clause-lanes c =
    subst AreLanes (sym (returns-clause-greatest c)) (still_lanes int_max greater c.args.kept c.args.next c.requires.kept c.requires.next)
