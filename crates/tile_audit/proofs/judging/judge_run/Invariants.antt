use Rattle.std.proofs.Common.{take}
use Rattle.std.specs.List.{AllZip}
use Rattle.tile_audit.specs.inside.Waits.{IsTileOf}
use Rattle.tile_audit.proofs.judging.judge_run.Given as goal

abbrev pub invariant-loop-i : goal.invariant-loop-i
invariant-loop-i g l = AllZip IsTileOf (take l.i l.tiles) l.told.items
