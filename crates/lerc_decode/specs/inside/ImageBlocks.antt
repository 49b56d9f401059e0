-- The blocks of an image, of which some were read.
use Rattle.std.specs.Prelude.{ℕ, ◌≤◌, Bool, List, length}
use Rattle.raster_values.specs.Raster.{Pixels}
use Rattle.lerc_header.specs.declared.fault.BlobFault.{BlobFault}
use Rattle.lerc_grammar.specs.Blocks.{first_block_faults}
use Rattle.lerc_decode.specs.declared.blob.image_blocks.ImageBlocks.{ImageBlocks}
use Rattle.lerc_decode.specs.inside.Blocks.{HasRead}
use Rattle.lerc_decode.specs.inside.Maxima.{top_in}

-- the first `at` bytes are the first k blocks of the raster
abbrev pub AreRead : ImageBlocks → List Bool → ℕ → ℕ → Pixels → Type 0
AreRead b marks k at r = HasRead b.header.now marks b.maxima.now b.rest.now k at r

-- it is a fault of the first block that has one, and stands no further on than the bytes end
pub record IsBlockFault (b : ImageBlocks) (marks : List Bool) (f : BlobFault) : Type 0 where
  pub first : first_block_faults b.header.now marks (top_in b.header.now b.maxima.now) b.rest.now
      f.place f.reason
  pub near : f.place ≤ length b.rest.now
