use Rattle.std.proofs.Common.{take}
use Rattle.std.specs.List.{AllZip}
use Rattle.overview_updates.specs.inside.Fours.{IsHalved}
use Rattle.overview_updates.proofs.halves.halve_run.Given as goal

abbrev pub invariant-loop-four : goal.invariant-loop-four
invariant-loop-four l = AllZip (IsHalved l.version) (take l.four-index l.fours) l.halves.items
