use Rattle.std.proofs.Common.{◌≡◌, take}
use Rattle.tile_audit.specs.Lines.{audit_lines}
use Rattle.tile_audit.proofs.lines.lines_of.Given as goal

abbrev pub invariant-loop-tile : goal.invariant-loop-tile
invariant-loop-tile l = l.lines.items ≡ audit_lines l.all (take l.tile-index l.tiles)
