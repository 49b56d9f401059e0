-- What is known of the blocks of a side that were looked at, and the values gathered meanwhile.
use Rattle.std.specs.Prelude.{ℕ, ◌≤◌, List, ℤ, All, IsTrue, map, take}
use Rattle.raster_cells.specs.declared.kind.PixelType.{PixelType}
use Rattle.raster_cells.specs.Distance.{IsDistance, value_above}
use Rattle.raster_values.specs.Raster.{Pixels}
use Rattle.micro_block.specs.Named.{AreNamed}
use Rattle.lerc_header.specs.declared.header.Header.{Header}
use Rattle.lerc_encode.specs.declared.blocks.flags.Flags.{Flags}
use Rattle.lerc_encode.specs.declared.blocks.sides.Gathered.{Gathered}
use Rattle.lerc_encode.specs.declared.blocks.sides.Tally.{Tally}
use Rattle.lerc_encode.specs.inside.Sides.{AreMore, IsMore}

-- blocks of n bytes more were looked at, and flags were set for them unless all take more than
-- `most`
pub record IsTallied (h : Header) (r : Pixels) (most n : ℕ) (AreFlagged : Flags → Type 0)
    (old new : Tally) : Type 0 where
  pub size : IsMore most n old.size new.size
  pub tables : AreMore h r old.tables new.tables
  pub flagged : new.size ≤ most → AreFlagged new.tables

-- the values that are gathered
abbrev pub values_in : PixelType → Gathered → List ℤ
values_in kind g = map (value_above kind) (take g.count g.distances)

-- each is one of the type, and where all are known to have a name it is this
pub record AreGathered (kind : PixelType) (g : Gathered) : Type 0 where
  pub fit : All (IsDistance kind) (take g.count g.distances)
  pub named : IsTrue g.known → AreNamed g.names (take g.count g.distances) (take g.count g.found)
