use Rattle.std.proofs.Common.{◌≡◌, ◌+◌, ◌++◌, List, take}
use Rattle.tile_audit.specs.declared.told.AuditedTile.{AuditedTile}
use Rattle.tile_audit.specs.Gave.{AreTotals}
use Rattle.tile_audit.proofs.totals.Totals.with_tiles.Given as goal

abbrev pub invariant-loop-tile : goal.invariant-loop-tile
invariant-loop-tile l = (l.totals.tiles ≡ l.self.tiles + l.tile-index)
    × ((before : List AuditedTile) → AreTotals before l.self → AreTotals (before ++ take l.tile-index l.tiles) l.totals)
