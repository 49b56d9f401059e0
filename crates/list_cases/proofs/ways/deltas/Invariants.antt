use Rattle.delta_mode.specs.EncodeStates.{IsOn}
use Rattle.list_cases.proofs.ways.deltas.Given as goal

abbrev pub invariant-loop-room : goal.invariant-loop-room
invariant-loop-room l = IsOn l.raster l.state
