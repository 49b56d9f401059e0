-- What is asked of a header whose blocks are written, and what is known of these before they are.
use Rattle.std.specs.Prelude.{◌≡◌, ℕ, ◌*◌, ◌<◌, ◌≤◌, List, ℤ, length, take}
use Rattle.raster_values.specs.Raster.{Pixels, IsRaster}
use Rattle.raster_values.specs.Block.{block_values}
use Rattle.raster_cells.specs.PixelType.{type_greatest}
use Rattle.raster_cells.specs.Step.{IsTwiceError}
use Rattle.micro_block.specs.declared.context.BlockCtx.{BlockCtx}
use Rattle.lut_stuff.specs.Facts.{Rises}
use Rattle.lerc_header.specs.declared.header.Header.{Header}
use Rattle.micro_block.specs.ChosenBlock as micro
use Rattle.micro_block.specs.ChosenBlock.{block_bytes, chosen_form}
use Rattle.lerc_grammar.specs.Blocks.{block_col, block_depth, block_row, coded_blocks, coded_values}
use Rattle.lerc_encode.specs.Images.{blocks_bytes}
use Rattle.lerc_encode.specs.declared.blocks.chosen_blocks.BlockAt.{BlockAt}
use Rattle.lerc_encode.specs.declared.blocks.chosen_blocks.Measured.{Measured}
use Rattle.lerc_encode.specs.declared.blocks.flags.Flags.{Flags}
use Rattle.lerc_encode.specs.inside.Flags.{IsMarked, room_of}

-- it is the raster's, with a side from 1 to 16 and a step
pub record IsBlocked (h : Header) (r : Pixels) : Type 0 where
  pub sound : IsRaster r
  pub kind : h.kind ≡ r.kind
  pub rows : h.rows ≡ r.rows
  pub cols : h.cols ≡ r.cols
  pub depth : h.depth ≡ r.depth
  pub side_above : 0 < h.side
  pub side_below : h.side ≤ 16
  pub step : IsTwiceError h.step

-- what a block of a column depends on besides its values
pub record IsContext (h : Header) (col : ℕ) (ctx : BlockCtx) : Type 0 where
  pub kind : ctx.kind ≡ h.kind
  pub column : ctx.col ≡ col
  pub step : ctx.step ≡ h.step
  pub top : ctx.top ≡ type_greatest h.kind

-- coded block number k stands here
pub record IsBlockAt (h : Header) (k : ℕ) (spot : BlockAt) : Type 0 where
  pub row : spot.row ≡ block_row h k
  pub col : spot.col ≡ block_col h k
  pub depth : spot.d ≡ block_depth h k

-- a block stands here
pub record IsWithin (h : Header) (spot : BlockAt) : Type 0 where
  pub row : spot.row < h.rows
  pub col : spot.col < h.cols
  pub depth : spot.d < h.depth

-- the values and the bytes of the block that stands here
abbrev pub values_at : Header → Pixels → BlockAt → List ℤ
values_at h r spot = block_values r spot.row spot.col h.side spot.d

abbrev pub bytes_at : Header → Pixels → BlockAt → List ℕ
bytes_at h r spot = block_bytes h.kind spot.col h.step (values_at h r spot)

-- a block has a table
abbrev pub HasTableAt : Header → Pixels → BlockAt → Type 0
HasTableAt h r spot = chosen_form h.kind spot.col h.step (values_at h r spot) ≡ micro.table

abbrev pub HasTable : Header → Pixels → ℕ → Type 0
HasTable h r k = chosen_form h.kind (block_col h k) h.step (coded_values h r k) ≡ micro.table

-- of the first n coded blocks, those that have a table, and none else where each has its own flag
pub record AreFlags (h : Header) (r : Pixels) (n : ℕ) (tables : Flags) : Type 0 where
  pub room : n ≤ room_of tables
  pub each : (k : ℕ) → k < n → HasTable h r k → IsMarked tables k
  pub sound : tables.group ≡ 1 → (k : ℕ) → k < n → IsMarked tables k → HasTable h r k

-- how many bytes all blocks take, and in which groups one has a table; at most 256 values, which
-- rise
pub record IsMeasured (h : Header) (r : Pixels) (m : Measured) : Type 0 where
  pub size : m.size ≡ length (blocks_bytes h r)
  pub few : m.size ≤ 1025 * 16777216
  pub tables : AreFlags h r (coded_blocks h) m.tables
  pub rises : Rises (take m.values.count m.values.values)
  pub few_values : m.values.count ≤ 256
