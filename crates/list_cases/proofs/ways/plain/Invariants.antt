use Rattle.delta_mode.specs.PlainStates.{IsOnPlain}
use Rattle.list_cases.proofs.ways.plain.Given as goal

abbrev pub invariant-loop-room : goal.invariant-loop-room
invariant-loop-room l = IsOnPlain l.raster l.state
