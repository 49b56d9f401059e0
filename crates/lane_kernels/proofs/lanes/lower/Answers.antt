use Rattle.std.proofs.Common.{sym, subst}
use Rattle.std.specs.Int.{int_min}
use Rattle.std.proofs.lemmas.List.Elements.{recursion_from_All}
use mir.Syntax.{w64}
use mir.Val.{SFits}
use Rattle.lane_kernels.specs.inside.Lanes.{AreLanes}
use Rattle.lane_kernels.proofs.Folds.{lesser, still_lanes}
use Rattle.lane_kernels.proofs.Ends.{min_lanes}
use Rattle.lane_kernels.proofs.lanes.lower.Goals as goal

pub returns-clause-least : goal.returns-clause-least
returns-clause-least c =
    min_lanes c.args.kept c.args.next (recursion_from_All (SFits w64) c.args.kept c.requires.kept.fit) (recursion_from_All (SFits w64) c.args.next c.requires.next.fit)

pub returns-clause-lanes : goal.returns-clause-lanes
returns-clause-lanes c =
    subst AreLanes (sym (returns-clause-least c)) (still_lanes int_min lesser c.args.kept c.args.next c.requires.kept c.requires.next)
