-- Reading blocks one behind the other.
use Rattle.std.specs.Prelude.{ℕ, ◌+◌, ◌*◌, ◌<◌, ◌≤◌, Bool, List, length, map, take}
use Rattle.std.specs.List.{range_with_len}
use Rattle.first_fault.specs.Faults.{Numbered}
use Rattle.raster_values.specs.Raster.{Pixels}
use Rattle.raster_cells.specs.Shapes.{IsShape}
use Rattle.micro_block.specs.Block.{IsBlock}
use Rattle.lerc_header.specs.declared.header.Header.{Header}
use Rattle.raster_cells.specs.Step.{IsTwiceError}
use Rattle.lerc_grammar.specs.Blocks.{AreBlocks, all_blocks, block_frame, blocks_across}
use Rattle.lerc_grammar.specs.Blocks.{blocks_down, coded_values}
use Rattle.lerc_decode.specs.declared.blob.maxima.Maxima.{Maxima}
use Rattle.lerc_decode.specs.inside.Maxima.{AreMaxima, top_in}

-- the number of the block in row a and column b of blocks, at depth d
abbrev pub block_number : Header → ℕ → ℕ → ℕ → ℕ
block_number h a b d = (a * blocks_across h + b) * h.depth + d

-- there is a block in row a and column b of blocks
pub record IsSquare (h : Header) (a b : ℕ) : Type 0 where
  pub down : a < blocks_down h
  pub across : b < blocks_across h

-- what holds of a header whose blocks are read
pub record IsBlockHead (h : Header) : Type 0 where
  pub side_above : 0 < h.side
  pub side_below : h.side ≤ 32
  pub shape : IsShape h.rows h.cols h.depth
  pub step : IsTwiceError h.step

-- and these are the maxima of its depths
pub record HasToppedBlocks (h : Header) (maxima : Maxima) : Type 0 where
  pub head : IsBlockHead h
  pub maxima_of : AreMaxima h maxima

-- the first `at` bytes are the first k blocks of the raster
pub record HasRead (h : Header) (marks : List Bool) (maxima : Maxima) (rest : List ℕ) (k at : ℕ)
    (r : Pixels) : Type 0 where
  pub within : at ≤ length rest
  pub stand : Numbered (λ j. IsBlock (block_frame h marks (top_in h maxima) j)) 0 (take at rest)
      (map (coded_values h r) (range_with_len 0 k))

-- all bytes are the blocks of the raster
pub record HasBlocks (h : Header) (marks : List Bool) (maxima : Maxima) (rest : List ℕ)
    (r : Pixels) : Type 0 where
  pub side : h.side ≤ 32
  pub stand : AreBlocks h marks (top_in h maxima) rest (all_blocks h r)
