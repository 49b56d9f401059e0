-- What is the first fault of bytes that should begin with a block, and its place from the first of
-- them: the tests in their order, each with the fault that it is where it fails.
use Rattle.std.specs.Prelude.{◌≡◌, ℕ, ◌*◌, ◌/◌, ◌%◌, ◌<◌, ◌≤◌, List, length, slice_index, drop}
use Rattle.std.specs.Prelude.{Option, Some, None}
use Rattle.first_fault.specs.Faults.{Faults, none, wrong, choice, unless, moved}
use Rattle.raster_cells.specs.declared.kind.PixelType.{PixelType}
use Rattle.raster_cells.specs.PixelType.{bytes_of}
use Rattle.bit_stuff.specs.declared.heads.ListReason.{ListReason}
use Rattle.lut_stuff.specs.Faults.{list_faults}
use Rattle.micro_block.specs.declared.context.BlockReason.{BlockReason}
use Rattle.micro_block.specs.declared.context.BlockReason.TheVariants as reasons
use Rattle.micro_block.specs.Block.{offset_type}
use Rattle.micro_block.specs.Frame.{Frame}

-- a fault of the list, told as one of the block
abbrev pub told_of_list : Faults ListReason → Faults BlockReason
told_of_list faults place reason =
    (why : ListReason) × (faults place why × (reason ≡ reasons.List why))

-- the values are there
abbrev pub raw_faults : Frame → List ℕ → Faults BlockReason
raw_faults f rest =
    unless (f.count * bytes_of f.kind ≤ length rest) (wrong reasons.Cut 0) none

-- the offset is there, and where a list follows, it is right
abbrev pub offset_faults : Frame → ℕ → PixelType → List ℕ → Faults BlockReason
offset_faults f form type rest =
    unless (bytes_of type ≤ length rest) (wrong reasons.Cut 0)
    (choice (form ≡ 1) (moved (bytes_of type)
    (told_of_list (list_faults f.count (drop (bytes_of type) rest)))) none)

-- the code of the offset's type is one of the pixel type's
abbrev pub code_faults : Frame → ℕ → Option PixelType → List ℕ → Faults BlockReason
code_faults f form None rest = wrong reasons.BadOffset 0
code_faults f form (Some type) rest = moved 1 (offset_faults f form type rest)

-- what follows the tag
abbrev pub form_faults : Frame → ℕ → List ℕ → Faults BlockReason
form_faults f tag rest =
    choice (tag % 4 ≡ 0) (moved 1 (raw_faults f rest))
    (choice (tag % 4 ≡ 2) none (code_faults f (tag % 4) (offset_type f.kind (tag / 64)) rest))

-- the tag is there, and it has the block's column
abbrev pub tag_faults : Frame → ℕ → List ℕ → Faults BlockReason
tag_faults f tag rest =
    unless (tag / 4 % 16 ≡ f.col / 8 % 16) (wrong reasons.BadTag 0) (form_faults f tag rest)

-- the first fault of a block
unfoldable pub block_faults : Frame → List ℕ → Faults BlockReason
block_faults f bytes =
    unless (0 < length bytes) (wrong reasons.Cut 0)
    (tag_faults f (slice_index bytes 0) (drop 1 bytes))
